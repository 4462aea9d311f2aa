use Rattle.std.proofs.Common.{map, string_bytes, Global}
use Rattle.report.specs.Reading.{draft}
use Rattle.report.proofs.Told.{filed}
use Rattle.report.proofs.report.Goals as goal

pub returns-in-Ok-clause-told : goal.returns-in-Ok-clause-told
returns-in-Ok-clause-told c = filed (draft c.args.file.now) c.in-Ok.book (map (string_bytes {Z = Global}) c.args.earnings.now) c.tell.result c.in-Ok.ensures.file c.tell.ensures
