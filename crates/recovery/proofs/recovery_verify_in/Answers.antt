-- `recovery::recovery_verify_in` meets its contract: the numbers are those of the verifier's answer, and the lent memories are as it leaves them. Assumes nothing.
use Rattle.recovery.proofs.NumberLaws.{verdict_numbers_law}
use Rattle.recovery.proofs.recovery_verify_in.Goals as goal

pub returns : goal.returns
returns c = let k = c.verify_in-answer.ensures in
    let v = verdict_numbers_law _ _ _ k.0 _ _ _ c.put_verdict.ensures c.number.ensures in (v.0, v.1, v.2, k.1, k.2)
