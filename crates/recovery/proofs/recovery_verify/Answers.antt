-- `recovery::recovery_verify` meets its contract: the numbers are those of the verifier's answer. Assumes nothing.
use Rattle.recovery.proofs.NumberLaws.{verdict_numbers_law}
use Rattle.recovery.proofs.recovery_verify.Goals as goal

pub returns : goal.returns
returns c = verdict_numbers_law _ _ _ c.verify-answer.ensures _ _ _ c.put_verdict.ensures c.number.ensures
