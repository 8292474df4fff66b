-- What the checker's answers mean: document 01's numbers and values.
use Rattle.std.specs.Prelude.{Bool, Result, Ok, Err}
use Rattle.format.specs.Format.{Answer, gives, refused}
use Rattle.reader.specs.declared.refusal.Refusal.{Refusal}
use Rattle.reader.specs.Answers.{number_of}

-- Yes or no; "A refused sheet gets its number".
unfoldable pub answer_of : Result Bool Refusal → Answer Bool
unfolding number_of
answer_of (Ok b) = gives b
answer_of (Err r) = refused (number_of r)
