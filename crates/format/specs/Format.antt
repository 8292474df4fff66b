-- The packed format: what a list of bytes says, or the number of its refusal. Document 01, "The sheet" and "From the sheet".
use Rattle.std.specs.Prelude.{if◌then◌else◌, ℕ, zero, suc, ◌+◌, ◌-◌, ◌*◌, ◌≤◌, ◌≡◌, Bool, true, false, ◌&&◌, ◌||◌, length, leb, ltb, eqb}
use mathlib.Core.List.{List, [], ◌∷◌, ◌++◌, flat_map}
use Rattle.lists.specs.Lists.{up_from, below, every, exists, nonempty}
use Rattle.format.specs.Syntax.{Objective, bottom, top, fact, new_fact, negation, conjunction, disjunction, equivalence, Epistemic, known, not_known, all_of, any_of, Program, end, act, branch, Action, change, probe, reply_count, Sheet}
use Rattle.format.specs.Truth.{states, holds, moves, reply_holds}
use Rattle.format.specs.Bits.{bits_at}

-- An answer, or a refusal by its number.
pub data Answer (A : Type 0) : Type 0 where
  gives : A → Answer A
  refused : ℕ → Answer A

-- What follows where something is accepted; a refusal is handed on.
unfoldable pub on_accepted : {A B : Type 0} → (A → Answer B) → Answer A → Answer B
on_accepted f (gives a) = f a
on_accepted f (refused r) = refused r

-- What is made of what is accepted; after a refusal something else.
unfoldable pub given_or : {A B : Type 0} → (otherwise : B) → (A → B) → Answer A → B
given_or otherwise made (gives a) = made a
given_or otherwise made (refused r) = otherwise

-- What reading from a position finds: a value and the position after it, or the number of a refusal.
pub data Read (A : Type 0) : Type 0 where
  got : A → ℕ → Read A
  fault : ℕ → Read A

-- A reader reads the bytes from a position on.
abbrev pub Reader : Type 0 → Type 0
Reader A = List ℕ → ℕ → Read A

-- One reading behind another: "fields in reading order", so the first refusal stands.
unfoldable pub and_then : {A B : Type 0} → Read A → (A → ℕ → Read B) → Read B
and_then (got a p) k = k a p
and_then (fault r) k = fault r

infixl 40 ◌>>=◌
unfoldable pub ◌>>=◌ : {A B : Type 0} → Reader A → (A → Reader B) → Reader B
unfolding and_then
◌>>=◌ m k bytes p = and_then (m bytes p) (λ a q. k a bytes q)

-- What was found, with another value made of it.
unfoldable pub mapped : {A B : Type 0} → (A → B) → Read A → Read B
mapped g (got a p) = got (g a) p
mapped g (fault r) = fault r

-- Reading nothing and giving a value; refusing; going on only if a test passes.
unfoldable pub give : {A : Type 0} → A → Reader A
give a bytes p = got a p

unfoldable pub refuse : {A : Type 0} → ℕ → Reader A
refuse r bytes p = fault r

unfoldable pub check : {A : Type 0} (passed : Bool) (r : ℕ) → Reader A → Reader A
unfolding refuse
check true r go = go
check false r go = refuse r

-- The limits of a sheet: "A sheet has at most 1,024 bytes." Facts "1 to 8", replies "1 to 8". "Depth 16 is the deepest allowed." "At most 64 action nodes and 63 branch
-- nodes."
abbrev pub most_bytes : ℕ
most_bytes = 1024

abbrev pub most_facts : ℕ
most_facts = 8

abbrev pub most_replies : ℕ
most_replies = 8

abbrev pub deepest : ℕ
deepest = 16

abbrev pub most_acts : ℕ
most_acts = 64

abbrev pub most_branches : ℕ
most_branches = 63

-- A field of k bits. 2: the sheet ends inside it.
unfoldable pub field : (k : ℕ) → Reader ℕ
unfolding bits_at
field k bytes p = if leb (p + k) (8 * length bytes) then got (bits_at bytes p k) (p + k) else fault 2

-- A 3-bit fact number. 6: it is n or more.
unfoldable pub fact_number : (n : ℕ) → Reader ℕ
unfolding field ◌>>=◌ check give
fact_number n = do
  i ← field 3
  check (ltb i n) 6 (give i)

-- An objective formula behind its tag. "0 false; 1 true; 2 fact and 3 new fact, each followed by a 3-bit fact number; 4 not (one formula follows); 5 and; 6 or;
-- 7 equivalence (two follow)." `part` reads a formula one deeper. 7: a new fact outside a theory, "7 before the fact number".
unfoldable pub objective_behind : (n : ℕ) (theory : Bool) (part : Reader Objective) (tag : ℕ) → Reader Objective
unfolding fact_number ◌>>=◌ check give
objective_behind n theory part tag =
    if eqb tag 0 then give bottom
    else if eqb tag 1 then give top
    else if eqb tag 2 then (do i ← fact_number n; give (fact i))
    else if eqb tag 3 then check theory 7 (do i ← fact_number n; give (new_fact i))
    else if eqb tag 4 then (do f ← part; give (negation f))
    else if eqb tag 5 then (do f ← part; g ← part; give (conjunction f g))
    else if eqb tag 6 then (do f ← part; g ← part; give (disjunction f g))
    else (do f ← part; g ← part; give (equivalence f g))

-- An objective formula over n facts, with d levels of depth left. 8: none is left, "8 before the tag is read".
unfoldable pub objective : (n : ℕ) (theory : Bool) (d : ℕ) → Reader Objective
unfolding refuse field objective_behind ◌>>=◌
objective n theory zero = refuse 8
objective n theory (suc d) = field 3 >>= objective_behind n theory (objective n theory d)

-- The first node of an epistemic formula. "Epistemic formula: 2-bit tag. 0 known (an objective formula follows); 1 not known (likewise); 2 and; 3 or (two epistemic
-- formulas follow)."
pub data EpistemicNode : Type 0 where
  known_node not_known_node all_of_node any_of_node : EpistemicNode

unfoldable pub epistemic_node : Reader EpistemicNode
unfolding field ◌>>=◌ give
epistemic_node = do
  tag ← field 2
  if eqb tag 0 then give known_node else if eqb tag 1 then give not_known_node else if eqb tag 2 then give all_of_node else give any_of_node

-- An epistemic formula behind its first node. `inside` reads an objective formula one deeper, `part` an epistemic one.
unfoldable pub epistemic_behind : (inside : Reader Objective) (part : Reader Epistemic) → EpistemicNode → Reader Epistemic
unfolding ◌>>=◌ give
epistemic_behind inside part known_node = do f ← inside; give (known f)
epistemic_behind inside part not_known_node = do f ← inside; give (not_known f)
epistemic_behind inside part all_of_node = do f ← part; g ← part; give (all_of f g)
epistemic_behind inside part any_of_node = do f ← part; g ← part; give (any_of f g)

-- An epistemic formula over n facts, with d levels of depth left. "known and not known count as nodes", so their formula is one deeper.
unfoldable pub epistemic : (n d : ℕ) → Reader Epistemic
unfolding refuse epistemic_node objective epistemic_behind ◌>>=◌
epistemic n zero = refuse 8
epistemic n (suc d) = epistemic_node >>= epistemic_behind (objective n false d) (epistemic n d)

-- m objective formulas, one after the other.
unfoldable pub objectives : (n m : ℕ) → Reader (List Objective)
unfolding objective ◌>>=◌ give
objectives n zero = give []
objectives n (suc m) = do
  f ← objective n false deepest
  fs ← objectives n m
  give (f ∷ fs)

-- The kind of an action. "Action: 1 bit. 0 is a change: one objective formula, its theory. 1 is a probe: reply count m, 4 bits, 1 to 8, then m objective formulas".
pub data Kind : Type 0 where
  changes probes : Kind

unfoldable pub kind : Reader Kind
unfolding field ◌>>=◌ give
kind = do
  bit ← field 1
  if eqb bit 0 then give changes else give probes

-- The reply count of a probe. 5: m is not 1 to 8.
unfoldable pub reply_total : Reader ℕ
unfolding field check ◌>>=◌ give
reply_total = do
  m ← field 4
  check (leb 1 m && leb m most_replies) 5 (give m)

-- A theory over n facts; the replies of a probe, behind their count.
abbrev pub theory_over : (n : ℕ) → Reader Objective
theory_over n = objective n true deepest

unfoldable pub replies_over : (n : ℕ) → Reader (List Objective)
unfolding reply_total objectives ◌>>=◌
replies_over n = reply_total >>= objectives n

-- An action behind its kind.
unfoldable pub action_behind : (n : ℕ) → Kind → Reader Action
unfolding objective replies_over ◌>>=◌ give
action_behind n changes = do f ← theory_over n; give (change f)
action_behind n probes = do fs ← replies_over n; give (probe fs)

unfoldable pub action : (n : ℕ) → Reader Action
unfolding kind action_behind ◌>>=◌
action n = kind >>= action_behind n

-- k actions, one after the other.
unfoldable pub action_list : (n k : ℕ) → Reader (List Action)
unfolding action ◌>>=◌ give
action_list n zero = give []
action_list n (suc k) = do
  a ← action n
  rest ← action_list n k
  give (a ∷ rest)

-- A program, with the numbers of action nodes and of branch nodes read up to its end.
pub record ProgramRead : Type 0 where
  pub program : Program
  pub acts : ℕ
  pub branches : ℕ

-- The first node of a program: the end, an action with its number, or a branch.
pub data ProgramNode : Type 0 where
  end_node : ProgramNode
  act_node : ℕ → ProgramNode
  branch_node : ProgramNode

-- "Program: 2-bit tag. 0 end; 1 action (5-bit number, then the rest, a program); 2 branch (epistemic formula, then-program, else-program, rest); 3 loop, refused."
-- acts and branches are the action nodes and the branch nodes read before it. 11: a node too many, and 10: a loop, "11 and 10 when the tag is known".
unfoldable pub program_node : (acts branches : ℕ) → Reader ProgramNode
unfolding field refuse check ◌>>=◌ give
program_node acts branches = do
  tag ← field 2
  if eqb tag 0 then give end_node
      else if eqb tag 1 then check (ltb acts most_acts) 11 (do a ← field 5; give (act_node a))
      else if eqb tag 2 then check (ltb branches most_branches) 11 (give branch_node)
      else refuse 10

-- A program behind its first node, over n facts and k actions, where acts and branches are the nodes read before it. `part` reads a program.
-- 9: an action number k or more.
unfoldable pub program_behind : (n k : ℕ) (part : ℕ → ℕ → Reader ProgramRead) (acts branches : ℕ) → ProgramNode → Reader ProgramRead
unfolding epistemic check ◌>>=◌ give
program_behind n k part acts branches end_node = give (record { program = end; acts = acts; branches = branches })
program_behind n k part acts branches (act_node a) =
    check (ltb a k) 9 (do
      rest ← part (acts + 1) branches
      give (record { program = act a rest.program; acts = rest.acts; branches = rest.branches }))
program_behind n k part acts branches branch_node = do
  f ← epistemic n deepest
  yes_part ← part acts (branches + 1)
  no_part ← part yes_part.acts yes_part.branches
  rest ← part no_part.acts no_part.branches
  give (record { program = branch f yes_part.program no_part.program rest.program; acts = rest.acts; branches = rest.branches })

-- A program with d levels left. Programs have no depth limit of their own: a level for each node that may come and one for an end are enough
-- (proofs/FormatLaws.antt, `more_levels`: more levels give the same), so the case of none left never arises.
unfoldable pub program_within : (n k d acts branches : ℕ) → Reader ProgramRead
unfolding program_node program_behind refuse ◌>>=◌
program_within n k zero acts branches = refuse 11
program_within n k (suc d) acts branches = program_node acts branches >>= program_behind n k (program_within n k d) acts branches

abbrev pub levels : ℕ
levels = most_acts + most_branches + 1

unfoldable pub program : (n k : ℕ) → Reader ProgramRead
unfolding program_within
program n k = program_within n k levels 0 0

-- What the header says: the edition, the number of facts, the constraint and the number of actions. (Behind it nothing depends on the edition.)
pub record Header : Type 0 where
  pub edition : ℕ
  pub facts : ℕ
  pub constraint : Objective
  pub actions : ℕ

-- The constraint over n facts. Document 02: "Edition 2 of the sheet has an objective formula, the constraint, straight after n." "Edition 1 sheets read as with the constraint
-- true."
unfoldable pub constraint_over : (edition n : ℕ) → Reader Objective
unfolding objective give
constraint_over edition n = if eqb edition 2 then objective n false deepest else give top

-- A header behind n: the constraint, "number of actions A, 5 bits, 0 to 31".
unfoldable pub header_behind : (edition n : ℕ) → Reader Header
unfolding constraint_over field ◌>>=◌ give
header_behind edition n = do
  constraint ← constraint_over edition n
  k ← field 5
  give (record { edition = edition; facts = n; constraint = constraint; actions = k })

-- "edition, 4 bits", "number of facts n, 4 bits, 1 to 8", and what stands behind. `takes` tells the editions that are read. 3: another edition; 4: n is not 1 to 8.
unfoldable pub header : (takes : ℕ → Bool) → Reader Header
unfolding field check header_behind ◌>>=◌
header takes = do
  edition ← field 4
  check (takes edition) 3 do
    n ← field 4
    check (leb 1 n && leb n most_facts) 4 (header_behind edition n)

-- The fields behind the header: "then A actions, numbered from 0", "start formula (objective), goal (epistemic), program"; and all fields.
abbrev pub body : Header → Reader Sheet
body h = do
  actions ← action_list h.facts h.actions
  start ← objective h.facts false deepest
  goal ← epistemic h.facts deepest
  counted ← program h.facts h.actions
  give (record { facts = h.facts; constraint = h.constraint; actions = actions; start = start; goal = goal; program = counted.program })

abbrev pub sheet_fields : (takes : ℕ → Bool) → Reader Sheet
sheet_fields takes = header takes >>= body

-- "0 to 7 zero bits to the end of the byte": from p fewer than 8 bits are left, all of them 0.
unfoldable pub is_padding : (bytes : List ℕ) (p : ℕ) → Bool
unfolding bits_at
is_padding bytes p = ltb (8 * length bytes - p) 8 && eqb (bits_at bytes p (8 * length bytes - p)) 0

-- The tests on the states, given as a list. "The start formula must hold in some state."
unfoldable pub has_start : (space : List ℕ) (start : Objective) → Bool
unfolding exists holds
has_start space start = exists (holds start) space

-- "A theory must allow some next state from each of the 2^n states", of which document 02 leaves those that satisfy the constraint. (2012, 2013: fully executable.) `allows`
-- tells the next states of a state.
unfoldable pub leads_on : (space : List ℕ) (allows : (s t : ℕ) → Bool) → Bool
unfolding every exists
leads_on space allows = every (λ s. exists (λ t. allows s t) space) space

-- "In each of the 2^n states some reply of a probe must be true", of those that satisfy the constraint. (2013: feedbacks are exhaustive; 2012 has no such rule. A change's
-- reply 0 is.)
unfoldable pub has_reply : (space : List ℕ) → Action → Bool
unfolding every exists reply_holds up_from reply_count
has_reply space a = every (λ s. exists (λ r. reply_holds a r s) (below (reply_count a))) space

-- A test's number if it fails.
unfoldable pub unless : (passed : Bool) (r : ℕ) → List ℕ
unless true r = []
unless false r = r ∷ []

-- The numbers of the tests that fail for an action: "14 a state without next state; 15 a state without reply". (A probe leaves the state as it is.)
unfoldable pub action_faults : (space : List ℕ) → Action → List ℕ
unfolding leads_on moves has_reply unless
action_faults space a = unless (leads_on space (moves a)) 14 ++ unless (has_reply space a) 15

-- The numbers of the tests that fail after the fields, in order: "12 a set padding bit or a spare byte"; document 02's "16, no state satisfies the constraint, tested after 12
-- and before 13"; "13 no start state"; "then 14 or 15 by action number". `tests` gives those that fail for an action.
unfoldable pub faults : (tests : (space : List ℕ) → Action → List ℕ) (bytes : List ℕ) (p : ℕ) → Sheet → List ℕ
unfolding is_padding nonempty has_start states unless flat_map
faults tests bytes p sheet = unless (is_padding bytes p) 12 ++ unless (nonempty (states sheet)) 16 ++ unless (has_start (states sheet) sheet.start) 13 ++ flat_map (tests (states sheet)) sheet.actions

-- The first of them decides.
unfoldable pub decided : {A : Type 0} → List ℕ → A → Answer A
decided [] a = gives a
decided (r ∷ rs) a = refused r

unfoldable pub after_fields : (tests : (space : List ℕ) → Action → List ℕ) (bytes : List ℕ) → Read Sheet → Answer Sheet
unfolding faults decided
after_fields tests bytes (fault r) = refused r
after_fields tests bytes (got sheet p) = decided (faults tests bytes p sheet) sheet

-- A reader of a sheet: 1, "longer than 1,024 bytes", "comes first".
unfoldable pub of_sheet : {A : Type 0} → Reader A → Reader A
of_sheet m bytes p = if leb (length bytes) most_bytes then m bytes p else fault 1

-- What the bytes are, a sheet or a refusal, by the editions that are taken and the tests that each action is put to.
unfoldable pub reading_by : (takes : ℕ → Bool) (tests : (space : List ℕ) → Action → List ℕ) (bytes : List ℕ) → Answer Sheet
unfolding of_sheet header action_list objective epistemic program ◌>>=◌ give after_fields
reading_by takes tests bytes = after_fields tests bytes (of_sheet (sheet_fields takes) bytes 0)

-- Edition 1, "value 1", and document 02's edition 2, with both tests.
unfoldable pub is_edition : ℕ → Bool
is_edition edition = eqb edition 1 || eqb edition 2

unfoldable pub reading : (bytes : List ℕ) → Answer Sheet
unfolding reading_by is_edition action_faults
reading bytes = reading_by is_edition action_faults bytes

-- The bytes say a sheet, whether or not its states pass the tests: no number up to 12 applies.
pub record Says (bytes : List ℕ) (sheet : Sheet) : Type 0 where
  pub short : length bytes ≤ most_bytes
  pub ends : ℕ
  pub fields : sheet_fields is_edition bytes 0 ≡ got sheet ends
  pub padded : is_padding bytes ends ≡ true
