use Rattle.std.proofs.Common.{◌≡◌, ℕ, ◌⊎◌, ap, sym, ◌∙◌, inl, inr}
use Rattle.wire.specs.declared.answers.Answer.{Answer}
use Rattle.wire.specs.declared.answers.Answer.TheVariants.{Number, Two}
use Rattle.wire.specs.Meaning.{meant, says}
use Rattle.session.specs.Memory.{says_words, next_words}
use Rattle.report.proofs.Lays.{Taken, refuses, lays_it}
use Rattle.report.proofs.reading.lay.Goals as goal

pub returns-in-Refused : goal.returns-in-Refused
returns-in-Refused c = λ d h.
    refuses c.args.words.now d h (meant c.args.rule) c.in-Refused.refusal _ c.call.new.words (ap says (sym c.in-Refused.is) ∙ c.call.ensures.said ∙ ap (says_words c.args.words.now) c.lay_bytes.ensures.back)

taken : (a : Answer) → ((n : ℕ) × (a ≡ Number n)) ⊎ ((n : ℕ) × (m : ℕ) × (a ≡ Two n m)) → Taken (says a)
taken a (inl f) = rw f.1 tt
taken a (inr f) = rw f.2 tt

pub returns-in-Number : goal.returns-in-Number
returns-in-Number c = λ d h.
    lays_it c.args.words.now d h (meant c.args.rule) (says c.call.result) c.call.new.words (taken c.call.result c.in-Number.is) (c.call.ensures.said ∙ ap (says_words c.args.words.now) c.lay_bytes.ensures.back)
    (c.call.ensures.words ∙ ap (next_words c.args.words.now) c.lay_bytes.ensures.back)
