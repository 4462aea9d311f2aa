use Rattle.std.proofs.Common.{◌≡◌, map, drop, string_bytes}
use Rattle.report.specs.Report.{no_earning}
use Rattle.report.proofs.prospects.no_earning.Given as goal

abbrev pub invariant-loop-word : goal.invariant-loop-word
invariant-loop-word l = no_earning l.book.bound (map string_bytes l.words) ≡ no_earning l.book.bound (map string_bytes (drop l.word-index l.words))
