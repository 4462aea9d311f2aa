use Rattle.std.proofs.Common.{arith}
use Rattle.std.proofs.lemmas.List.{length-take-le}
use Rattle.session.proofs.OnBytes.{enough_memory_bytes}
use Rattle.session.proofs.serve.Goals as goal

pub copy_from_slice-requires : goal.copy_from_slice-requires
copy_from_slice-requires c = omega (arith, length-take-le 24 c.args.out.now)

pub returns-then-out-lt24-clause-enough : goal.returns-then-out-lt24-clause-enough
returns-then-out-lt24-clause-enough c = enough_memory_bytes

pub returns-clause-enough : goal.returns-clause-enough
returns-clause-enough c = enough_memory_bytes
