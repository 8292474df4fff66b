-- `reader::U8FromRefusal::from` meets its contract, case by case. Assumes nothing.
use Prim.Native.Nat.{◌+◌}
use mathlib.Core.Path.{◌≡◌, refl}
use denote.Enum.Declared.{tag_of}
use Rattle.reader.specs.contracts.refusal.Refusal.{the_type}
use Rattle.reader.specs.declared.refusal.Refusal.{Refusal}
use Rattle.reader.specs.Answers.{number_of}
use Rattle.reader.proofs.refusal.U8FromRefusal.from.Goals as goal

by_case : (r : Refusal) → tag_of the_type r + 1 ≡ number_of r
unfolding number_of
by_case Refusal.Length = refl
by_case Refusal.Cut = refl
by_case Refusal.Edition = refl
by_case Refusal.Facts = refl
by_case Refusal.Replies = refl
by_case Refusal.FactNumber = refl
by_case Refusal.NewFact = refl
by_case Refusal.Depth = refl
by_case Refusal.ActionNumber = refl
by_case Refusal.Loop = refl
by_case Refusal.Nodes = refl
by_case Refusal.Padding = refl
by_case Refusal.NoStart = refl
by_case Refusal.NoNext = refl
by_case Refusal.NoReply = refl
by_case Refusal.NoState = refl

pub returns : goal.returns
returns c = by_case c.args.refusal
