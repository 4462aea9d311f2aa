use Rattle.std.proofs.Common.{◌≡◌, ◌++◌, List, map, length, drop, Some, string_bytes}
use Rattle.std.specs.List.{flat_map}
use Rattle.raise.specs.declared.LosingRow.{LosingRow}
use Rattle.losses.specs.Words.{read_row}
use Rattle.report.specs.Report.{losing_row_line}
use Rattle.report.proofs.rows.write_each.Given as goal

abbrev pub invariant-loop-words : goal.invariant-loop-words
invariant-loop-words l =
    (length l.table ≡ length l.initial.table) × ((told : List LosingRow) → map read_row l.rows ≡ map Some told →
    string_bytes l.out ++ flat_map (losing_row_line l.book.rules l.book.bound) (drop l.words-index told) ≡ string_bytes l.initial.out ++ flat_map (losing_row_line l.book.rules l.book.bound) told)
