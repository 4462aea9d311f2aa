use Rattle.raise.proofs.Alike.{idle_anywhere, idle_laid}
use Rattle.raise.proofs.Idle.{these, no_others}
use Rattle.raise.proofs.laws.idle_rules.Goals as goal

pub returns : goal.returns
returns c = record { anywhere = idle_anywhere; laid = idle_laid; these = these; no_others = no_others }
