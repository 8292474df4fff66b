-- Laws of the header, the kind of an action, the reply count and the first nodes, each by its fields. Assumes nothing.
use Prim.Native.Nat.{ℕ, ◌≤◌, ◌<◌}
use mathlib.Core.Path.{◌≡◌}
use mathlib.Core.List.{List}
use mathlib.Core.Bool.{Bool, true, false, ◌&&◌}
use native.Mathlib.Omega.{arith}
use lib.Dec.{leb, eqb}
use borrow.Author.Tests.{le-leb, lt-leb, le-ltb, lt-ltb}
use Rattle.std.specs.Prelude.{if◌then◌else◌}
use Rattle.format.specs.Syntax.{Objective, top}
use Rattle.format.specs.Format.{got, fault, and_then, ◌>>=◌, give, refuse, check, field, most_facts, most_replies, most_acts, most_branches, deepest, objective, constraint_over, changes, probes, kind, reply_total, known_node, not_known_node, all_of_node, any_of_node, epistemic_node, end_node, act_node, branch_node, program_node, header_behind, header}

-- The test "1 to 8".
module _ (m : ℕ) where
  -- A number from 1 to 8 passes the test "1 to 8".
  pub one_to_eight : 1 ≤ m → m ≤ 8 → leb 1 m && leb m 8 ≡ true
  one_to_eight h k = rw (le-leb 1 m h, le-leb m 8 k)

  -- A smaller one fails it.
  pub below_one : m < 1 → leb 1 m && leb m 8 ≡ false
  below_one h = rw (lt-leb 1 m h)

  -- A larger one fails it.
  pub above_eight : 8 < m → leb 1 m && leb m 8 ≡ false
  above_eight h = let l : 1 ≤ m = omega arith in rw (le-leb 1 m l, lt-leb m 8 h)

-- The constraint: edition 2 has one, and another edition is read as with the constraint "true".
module _ (edition n : ℕ) (bytes : List ℕ) (p : ℕ) where
  pub constraint_stands : eqb edition 2 ≡ true → constraint_over edition n bytes p ≡ objective n false deepest bytes p
  unfolding constraint_over
  constraint_stands e = rw e

  pub constraint_absent : eqb edition 2 ≡ false → constraint_over edition n bytes p ≡ got top p
  unfolding constraint_over give
  constraint_absent e = rw e

-- A header behind its number of facts.
module _ (edition n : ℕ) (bytes : List ℕ) (p : ℕ) where
  -- One whose constraint is refused is refused as that is.
  pub constraint_refused : {r : ℕ} → constraint_over edition n bytes p ≡ fault r → header_behind edition n bytes p ≡ fault r
  unfolding header_behind ◌>>=◌ and_then
  constraint_refused c = rw c

  module _ {constraint : Objective} {q : ℕ} (c : constraint_over edition n bytes p ≡ got constraint q) where
    -- One that ends inside its number of actions is refused as the field is.
    pub actions_cut : {r : ℕ} → field 5 bytes q ≡ fault r → header_behind edition n bytes p ≡ fault r
    unfolding header_behind ◌>>=◌ and_then
    actions_cut l = rw (c, l)

    -- Otherwise it gives the numbers and the constraint.
    pub header_got : {k r : ℕ} → field 5 bytes q ≡ got k r → header_behind edition n bytes p ≡ got (record { edition = edition; facts = n; constraint = constraint; actions = k }) r
    unfolding header_behind ◌>>=◌ and_then give
    header_got l = rw (c, l)

-- The header, by its fields.
module _ (takes : ℕ → Bool) (bytes : List ℕ) where
  -- A header that ends inside its edition is refused as the field is.
  pub edition_cut : {r : ℕ} → field 4 bytes 0 ≡ fault r → header takes bytes 0 ≡ fault r
  unfolding header ◌>>=◌ and_then
  edition_cut e = rw e

  module _ {edition q : ℕ} (e : field 4 bytes 0 ≡ got edition q) where
    -- Another edition is refused.
    pub edition_out : takes edition ≡ false → header takes bytes 0 ≡ fault 3
    unfolding header ◌>>=◌ and_then check refuse
    edition_out t = rw (e, t)

    module _ (t : takes edition ≡ true) where
      -- A header that ends inside its number of facts is refused as the field is.
      pub facts_cut : {r : ℕ} → field 4 bytes q ≡ fault r → header takes bytes 0 ≡ fault r
      unfolding header ◌>>=◌ and_then check
      facts_cut h = rw (e, t, h)

      module _ {n r : ℕ} (h : field 4 bytes q ≡ got n r) where
        -- A number of facts that is not 1 to 8 is refused.
        pub facts_out : leb 1 n && leb n most_facts ≡ false → header takes bytes 0 ≡ fault 4
        unfolding header ◌>>=◌ and_then check refuse
        facts_out u = rw (e, t, h, u)

        -- Otherwise it is what stands behind.
        pub header_goes_on : leb 1 n && leb n most_facts ≡ true → header takes bytes 0 ≡ header_behind edition n bytes r
        unfolding header ◌>>=◌ and_then check
        header_goes_on u = rw (e, t, h, u)

-- The kind of an action and the reply count of a probe.
module _ (bytes : List ℕ) (p : ℕ) where
  -- A kind that is cut is refused as the field is.
  pub kind_cut : {r : ℕ} → field 1 bytes p ≡ fault r → kind bytes p ≡ fault r
  unfolding kind ◌>>=◌ and_then
  kind_cut e = rw e

  module _ {bit q : ℕ} (e : field 1 bytes p ≡ got bit q) where
    -- Kind 0 is a change.
    pub kind_change : eqb bit 0 ≡ true → kind bytes p ≡ got changes q
    unfolding kind ◌>>=◌ and_then give
    kind_change t = rw (e, t)

    -- The other is a probe.
    pub kind_probe : eqb bit 0 ≡ false → kind bytes p ≡ got probes q
    unfolding kind ◌>>=◌ and_then give
    kind_probe t = rw (e, t)

  -- A reply count that is cut is refused as the field is.
  pub total_cut : {r : ℕ} → field 4 bytes p ≡ fault r → reply_total bytes p ≡ fault r
  unfolding reply_total ◌>>=◌ and_then
  total_cut e = rw e

  module _ {m q : ℕ} (e : field 4 bytes p ≡ got m q) where
    -- One that is not 1 to 8 is refused.
    pub total_out : leb 1 m && leb m most_replies ≡ false → reply_total bytes p ≡ fault 5
    unfolding reply_total ◌>>=◌ and_then check refuse
    total_out t = rw (e, t)

    -- Otherwise it is given.
    pub total_in : leb 1 m && leb m most_replies ≡ true → reply_total bytes p ≡ got m q
    unfolding reply_total ◌>>=◌ and_then check give
    total_in t = rw (e, t)

-- The first node of an epistemic formula.
module _ (bytes : List ℕ) (p : ℕ) where
  -- An epistemic formula that ends inside its tag is refused as the field is.
  pub epistemic_cut : {r : ℕ} → field 2 bytes p ≡ fault r → epistemic_node bytes p ≡ fault r
  unfolding epistemic_node ◌>>=◌ and_then
  epistemic_cut e = rw e

  module _ {tag q : ℕ} (e : field 2 bytes p ≡ got tag q) where
    -- Tag 0 is known.
    pub known_first : eqb tag 0 ≡ true → epistemic_node bytes p ≡ got known_node q
    unfolding epistemic_node ◌>>=◌ and_then give
    known_first t = rw (e, t)

    -- Tag 1 is not known.
    pub not_known_first : eqb tag 0 ≡ false → eqb tag 1 ≡ true → epistemic_node bytes p ≡ got not_known_node q
    unfolding epistemic_node ◌>>=◌ and_then give
    not_known_first t u = rw (e, t, u)

    -- Tag 2 is and.
    pub all_of_first : eqb tag 0 ≡ false → eqb tag 1 ≡ false → eqb tag 2 ≡ true → epistemic_node bytes p ≡ got all_of_node q
    unfolding epistemic_node ◌>>=◌ and_then give
    all_of_first t u v = rw (e, t, u, v)

    -- Any other tag is or.
    pub any_of_first : eqb tag 0 ≡ false → eqb tag 1 ≡ false → eqb tag 2 ≡ false → epistemic_node bytes p ≡ got any_of_node q
    unfolding epistemic_node ◌>>=◌ and_then give
    any_of_first t u v = rw (e, t, u, v)

-- The first node of a program, by the nodes read before it.
module _ (acts branches : ℕ) (bytes : List ℕ) (p : ℕ) where
  -- A program that ends inside its tag is refused as the field is.
  pub program_cut : {r : ℕ} → field 2 bytes p ≡ fault r → program_node acts branches bytes p ≡ fault r
  unfolding program_node ◌>>=◌ and_then
  program_cut e = rw e

  module _ {tag q : ℕ} (e : field 2 bytes p ≡ got tag q) where
    -- Tag 0 is the end.
    pub end_first : eqb tag 0 ≡ true → program_node acts branches bytes p ≡ got end_node q
    unfolding program_node ◌>>=◌ and_then give
    end_first t = rw (e, t)

    module _ (t : eqb tag 0 ≡ false) (u : eqb tag 1 ≡ true) where
      -- An action node too many is refused.
      pub act_many : most_acts ≤ acts → program_node acts branches bytes p ≡ fault 11
      unfolding program_node ◌>>=◌ and_then check refuse
      act_many l = rw (e, t, u, le-ltb acts most_acts l)

      -- An action node that ends inside its number is refused as the field is.
      pub number_cut : {r : ℕ} → acts < most_acts → field 5 bytes q ≡ fault r → program_node acts branches bytes p ≡ fault r
      unfolding program_node ◌>>=◌ and_then check
      number_cut l h = rw (e, t, u, lt-ltb acts most_acts l, h)

      -- Tag 1 is an action with its number.
      pub act_first : {a r : ℕ} → acts < most_acts → field 5 bytes q ≡ got a r → program_node acts branches bytes p ≡ got (act_node a) r
      unfolding program_node ◌>>=◌ and_then check give
      act_first l h = rw (e, t, u, lt-ltb acts most_acts l, h)

    module _ (t : eqb tag 0 ≡ false) (u : eqb tag 1 ≡ false) where
      -- A branch node too many is refused.
      pub branch_many : eqb tag 2 ≡ true → most_branches ≤ branches → program_node acts branches bytes p ≡ fault 11
      unfolding program_node ◌>>=◌ and_then check refuse
      branch_many v l = rw (e, t, u, v, le-ltb branches most_branches l)

      -- Tag 2 is a branch.
      pub branch_first : eqb tag 2 ≡ true → branches < most_branches → program_node acts branches bytes p ≡ got branch_node q
      unfolding program_node ◌>>=◌ and_then check give
      branch_first v l = rw (e, t, u, v, lt-ltb branches most_branches l)

      -- Any other tag is a loop, which is refused.
      pub loop_first : eqb tag 2 ≡ false → program_node acts branches bytes p ≡ fault 10
      unfolding program_node ◌>>=◌ and_then refuse
      loop_first v = rw (e, t, u, v)
