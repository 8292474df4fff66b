-- Truth of objective formulas, states, and what an action does in one step. Document 01, "States and steps".
use Rattle.std.specs.Prelude.{ℕ, ◌/◌, ◌%◌, ◌^◌, List, Bool, true, false, not, ◌&&◌, ◌||◌, eqb, ltb, get_or}
use Rattle.std.specs.Bool.{beq}
use Rattle.lists.specs.Lists.{up_from, below, keep}
use Rattle.format.specs.Syntax.{Objective, bottom, top, fact, new_fact, negation, conjunction, disjunction, equivalence, Action, change, probe, Sheet}

-- Whether a fact is true in a state.
unfoldable pub fact_in : (s i : ℕ) → Bool
fact_in s i = eqb (s / 2 ^ i % 2) 1

-- Truth of a formula at a state s and a next state t.
unfoldable pub truth : Objective → (s t : ℕ) → Bool
unfolding fact_in
truth bottom s t = false
truth top s t = true
truth (fact i) s t = fact_in s i
truth (new_fact i) s t = fact_in t i
truth (negation f) s t = not (truth f s t)
truth (conjunction f g) s t = truth f s t && truth g s t
truth (disjunction f g) s t = truth f s t || truth g s t
truth (equivalence f g) s t = beq (truth f s t) (truth g s t)

-- Truth of a formula at a state. (A new fact stands in theories only, so the next state doesn't matter.)
unfoldable pub holds : Objective → ℕ → Bool
unfolding truth
holds f s = truth f s s

-- "A state is a byte: fact i has weight 2^i, weights of facts n and above are absent." Document 02: "States are then only those that satisfy" the constraint.
-- Whether a number is a state over n facts: every other definition goes by this test.
unfoldable pub in_space : (n : ℕ) (constraint : Objective) (s : ℕ) → Bool
unfolding holds
in_space n constraint s = ltb s (2 ^ n) && holds constraint s

-- The states over n facts, in order. (All are below 2^n.)
unfoldable pub space_of : (n : ℕ) (constraint : Objective) → List ℕ
unfolding up_from keep in_space
space_of n constraint = keep (in_space n constraint) (below (2 ^ n))

-- Those of a sheet.
unfoldable pub is_state : Sheet → ℕ → Bool
unfolding in_space
is_state sheet s = in_space sheet.facts sheet.constraint s

unfoldable pub states : Sheet → List ℕ
unfolding space_of
states sheet = space_of sheet.facts sheet.constraint

-- Whether a theory mentions fact i as new.
unfoldable pub mentions_new : (theory : Objective) (i : ℕ) → Bool
mentions_new bottom i = false
mentions_new top i = false
mentions_new (fact j) i = false
mentions_new (new_fact j) i = eqb j i
mentions_new (negation f) i = mentions_new f i
mentions_new (conjunction f g) i = mentions_new f i || mentions_new g i
mentions_new (disjunction f g) i = mentions_new f i || mentions_new g i
mentions_new (equivalence f g) i = mentions_new f i || mentions_new g i

-- One step, in two halves. First the effect: a change leads to each state that its theory allows, so a fact that the theory doesn't mention as new
-- is free (proofs/StateLaws.antt, `moves_free`; 2013 sometimes omits the "stays the same" clauses in print, and a sheet that omits one frees the fact).
-- "A probe changes no fact."
unfoldable pub moves : Action → (s t : ℕ) → Bool
unfolding truth
moves (change theory) s t = truth theory s t
moves (probe replies) s t = eqb s t

-- Then the reply, in the state after the effect: a change's reply is 0; a probe's is one that is true. "Several may be." (2013: replies
-- are exhaustive, and need not exclude one another.)
unfoldable pub reply_holds : Action → (r t : ℕ) → Bool
unfolding holds
reply_holds (change theory) r t = eqb r 0
reply_holds (probe replies) r t = holds (get_or replies r bottom) t

-- The step of an action from state s with reply r to state t.
unfoldable pub allowed : Action → (s r t : ℕ) → Bool
unfolding moves reply_holds
allowed a s r t = moves a s t && reply_holds a r t
