-- The session on bytes: calls come as bytes, answers go as bytes. Nothing is assumed.
use Rattle.std.specs.Prelude.{◌≡◌, ℕ, ◌+◌, ◌*◌, ◌<◌, ◌≤◌, true, List, [], ◌∷◌, map, length, take, drop, Some, nat_lt}
use Rattle.std.specs.List.{AllByRecursion}
use Rattle.raise.specs.Rules.{pick}
use Rattle.raise.specs.Calls.{Limits, number, turned, answers}
use Rattle.raise.specs.Promise.{ran, all_below, whole}
use Rattle.wire.specs.CallBytes.{call_of}
use Rattle.wire.specs.AnswerBytes.{answer_bytes, answer_of}
use Rattle.book.specs.Held.{asked}
use Rattle.session.specs.Memory.{opening, open_words, says_words, next_words}

-- the bytes that are answered, and the words after it
abbrev pub says_bytes : List ℕ → List ℕ → List ℕ
says_bytes ws bs = answer_bytes (says_words ws (call_of bs))

abbrev pub next_bytes : List ℕ → List ℕ → List ℕ
next_bytes ws bs = next_words ws (call_of bs)

-- where there is room for an answer, x; else y
abbrev pub if_room : {A : Type 0} → List ℕ → A → A → A
if_room out x y = pick (nat_lt (length out) 24) y x

unfoldable pub told_bytes : List ℕ → List (List ℕ) → List (List ℕ)
told_bytes ws [] = []
told_bytes ws (bs ∷ bss) = says_bytes ws bs ∷ told_bytes (next_bytes ws bs) bss

unfoldable pub left_bytes : List ℕ → List (List ℕ) → List ℕ
left_bytes ws [] = ws
left_bytes ws (bs ∷ bss) = left_bytes (next_bytes ws bs) bss

-- ---- what is promised, for an accepted opening on any words and any lists of bytes, calls or not

-- the bytes answered are those of the written book's answers
abbrev pub RightBytes : Type 0
RightBytes =
    (ws : List ℕ) (l : Limits) (bss : List (List ℕ)) → l.rules_can ≡ whole → opening ws l ≡ number 0 →
    told_bytes (open_words ws l) bss ≡ map answer_bytes (answers l [] (map call_of bss))

-- and they are read back as these: no number is cut short
abbrev pub ReadBackBytes : Type 0
ReadBackBytes =
    (ws : List ℕ) (l : Limits) (bss : List (List ℕ)) → l.rules_can ≡ whole → opening ws l ≡ number 0 → AllByRecursion (λ bs. all_below 256 bs ≡ true) bss →
    map answer_of (told_bytes (open_words ws l) bss) ≡ map Some (answers l [] (map call_of bss))

-- bytes that are turned away change nothing
abbrev pub RefusalKeepsBytes : Type 0
RefusalKeepsBytes =
    (ws : List ℕ) (l : Limits) (bss : List (List ℕ)) (bs : List ℕ) → l.rules_can ≡ whole → opening ws l ≡ number 0 → 0 < turned l (ran l [] (map call_of bss)) (call_of bs) →
    next_bytes (left_bytes (open_words ws l) bss) bs ≡ left_bytes (open_words ws l) bss

-- the words asked for are at most 64 a rule and 256 more; each stays within 64 bits, and those behind them stay as they were
abbrev pub EnoughMemoryBytes : Type 0
EnoughMemoryBytes =
    (ws : List ℕ) (l : Limits) (bss : List (List ℕ)) → opening ws l ≡ number 0 →
    (asked l.rules ≤ 64 * l.rules + 256) × (all_below 18446744073709551616 (take (asked l.rules) (left_bytes (open_words ws l) bss)) ≡ true) ×
    (drop (asked l.rules) (left_bytes (open_words ws l) bss) ≡ drop (asked l.rules) ws)
