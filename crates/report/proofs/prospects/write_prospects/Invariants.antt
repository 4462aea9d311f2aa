use Rattle.std.proofs.Common.{◌≡◌, ◌++◌, map, length, drop, string_bytes}
use Rattle.std.specs.List.{flat_map}
use Rattle.report.specs.Report.{earning_line}
use Rattle.report.proofs.prospects.write_prospects.Given as goal

abbrev pub invariant-loop-word : goal.invariant-loop-word
invariant-loop-word l =
    (length l.scratch ≡ length l.initial.scratch) × (string_bytes l.out ++ flat_map (earning_line l.book.rules l.book.bound) (map string_bytes (drop l.word-index l.words))
    ≡ string_bytes l.initial.out ++ flat_map (earning_line l.book.rules l.book.bound) (map string_bytes l.words))
