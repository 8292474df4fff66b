-- Laws of the readers of specs/Format.antt: what they give, which read alike, and how many levels a program needs. Assumes nothing.
use Prim.Native.Nat.{ℕ, zero, suc, ◌+◌, ◌-◌, ◌*◌, ◌^◌, ◌≤◌, ◌<◌}
use mathlib.Core.Path.{◌≡◌, refl, sym, subst, ◌∙◌}
use mathlib.Core.List.{List}
use mathlib.Core.Bool.{Bool, true, false}
use native.Mathlib.Omega.{arith}
use native.Mathlib.Nat.{add-suc, mul_assoc, mul-le-mul_right, pow-succ'}
use lib.Dec.{leb, ltb, eqb}
use lib.ListN.{length}
use borrow.Author.Tests.{leb-true, ltb-true}
use Rattle.std.specs.Prelude.{if◌then◌else◌}
use Rattle.format.specs.Syntax.{Program, end, act, branch, action_nodes, branch_nodes}
use Rattle.format.specs.Bits.{bit_at, bits_onto, bits_at}
use Rattle.format.specs.Format.{Read, got, fault, Reader, and_then, ◌>>=◌, give, refuse, check, field, deepest, most_acts, most_branches, epistemic, ProgramRead, ProgramNode, end_node, act_node, branch_node, program_node, program_behind, program_within, levels}

module _ {A : Type 0} (Q : A → Type 0) where
  -- Everything that a reader gives has a property.
  abbrev pub Gives : Reader A → Type 0
  Gives m = (bytes : List ℕ) (p : ℕ) (a : A) (q : ℕ) → m bytes p ≡ got a q → Q a

  -- Giving a value that has it.
  pub gives_give : (a : A) → Q a → Gives (give a)
  unfolding give
  gives_give a h bytes p b q e = let k : a ≡ b = cc in subst Q k h

  -- Refusing gives nothing.
  pub gives_refuse : (r : ℕ) → Gives (refuse r)
  unfolding refuse
  gives_refuse r bytes p b q e = let z : ◌≡◌ {A = ℕ} 0 1 = cc in absurd (omega arith)

  -- The choice between two readers.
  pub gives_if : (b : Bool) (m n : Reader A) → Gives m → Gives n → Gives (if b then m else n)
  gives_if true m n x y = x
  gives_if false m n x y = y

  -- Going on only if a test passes.
  pub gives_check : (b : Bool) (r : ℕ) (m : Reader A) → (b ≡ true → Gives m) → Gives (check b r m)
  unfolding check
  gives_check true r m x = x refl
  gives_check false r m x = gives_refuse r

-- One reader behind another, of whose value something is known.
pub gives_behind : {A B : Type 0} (P : A → Type 0) (Q : B → Type 0) (m : Reader A) (k : A → Reader B) → Gives P m → ((a : A) → P a → Gives Q (k a)) → Gives Q (m >>= k)
unfolding ◌>>=◌ and_then
gives_behind {A = A} P Q m k x y bytes p b q e = go (m bytes p) refl e
  where
    go : (r : Read A) → m bytes p ≡ r → and_then r (λ a i. k a bytes i) ≡ got b q → Q b
    go (got a i) l j = y a (x bytes p a i l) bytes i b q j
    go (fault r) l j = let z : ◌≡◌ {A = ℕ} 0 1 = cc in absurd (omega arith)

-- Any value will do.
abbrev Anything : {A : Type 0} → A → Type 0
Anything a = Unit {0}

-- Shorthand where nothing is known of the first value.
abbrev pub gives_any : {A B : Type 0} (Q : B → Type 0) (m : Reader A) (k : A → Reader B) → ((a : A) → Gives Q (k a)) → Gives Q (m >>= k)
gives_any Q m k y = gives_behind Anything Q m k (λ bytes p a q e. tt) (λ a u. y a)

-- Two readers read alike, wherever they read.
abbrev pub Same : {A : Type 0} → Reader A → Reader A → Type 0
Same m m' = (bytes : List ℕ) (p : ℕ) → m bytes p ≡ m' bytes p

module _ {A : Type 0} where
  -- Going on only if a test passes.
  pub same_check : (b : Bool) (r : ℕ) (m m' : Reader A) → (b ≡ true → Same m m') → Same (check b r m) (check b r m')
  unfolding check
  same_check true r m m' x = x refl
  same_check false r m m' x = λ bytes p. refl

-- One reader behind another, of whose value something is known.
pub same_behind : {A B : Type 0} (P : A → Type 0) (m m' : Reader A) (k k' : A → Reader B) → Gives P m → Same m m' → ((a : A) → P a → Same (k a) (k' a)) → Same (m >>= k) (m' >>= k')
unfolding ◌>>=◌ and_then
same_behind {A = A} P m m' k k' x e y bytes p = rw (sym (e bytes p)) (go (m bytes p) refl)
  where
    go : (r : Read A) → m bytes p ≡ r → and_then r (λ a q. k a bytes q) ≡ and_then r (λ a q. k' a bytes q)
    go (got a q) l = y a (x bytes p a q l) bytes q
    go (fault i) l = refl

-- Shorthand where nothing is known of the first value.
abbrev same_any : {A B : Type 0} (m : Reader A) (k k' : A → Reader B) → ((a : A) → Same (k a) (k' a)) → Same (m >>= k) (m >>= k')
same_any m k k' y = same_behind Anything m m k k' (λ bytes p a q e. tt) (λ bytes p. refl) (λ a u. y a)

-- How one reader behind another has given a value: the first gave a value and a position, and the second went on from there.
pub record Behind {A B : Type 0} (m : Reader A) (k : A → Reader B) (bytes : List ℕ) (p : ℕ) (b : B) (q : ℕ) : Type 0 where
  pub value : A
  pub middle : ℕ
  pub first : m bytes p ≡ got value middle
  pub second : k value bytes middle ≡ got b q

-- What one reader behind another gives, both have given.
pub got_behind : {A B : Type 0} (m : Reader A) (k : A → Reader B) (bytes : List ℕ) (p : ℕ) (b : B) (q : ℕ) → (m >>= k) bytes p ≡ got b q → Behind m k bytes p b q
unfolding ◌>>=◌ and_then
got_behind {A = A} m k bytes p b q e = go (m bytes p) refl e
  where
    go : (r : Read A) → m bytes p ≡ r → and_then r (λ a i. k a bytes i) ≡ got b q → Behind m k bytes p b q
    go (got a i) l j = record { value = a; middle = i; first = l; second = j }
    go (fault r) l j = let z : ◌≡◌ {A = ℕ} 0 1 = cc in absurd (omega arith)

-- One reader behind another, by what the first finds.
module _ {A B : Type 0} (m : Reader A) (k : A → Reader B) (bytes : List ℕ) (p : ℕ) where
  -- Behind a value the second reader goes on where the first ended.
  pub behind_got : {a : A} {q : ℕ} → m bytes p ≡ got a q → (m >>= k) bytes p ≡ k a bytes q
  unfolding ◌>>=◌ and_then
  behind_got e = rw e

  -- The first one's refusal stands.
  pub behind_fault : {r : ℕ} → m bytes p ≡ fault r → (m >>= k) bytes p ≡ fault r
  unfolding ◌>>=◌ and_then
  behind_fault e = rw e

-- What a reader gives at one position, with the position after it, has a property.
pub record Finds {A : Type 0} (bytes : List ℕ) (p : ℕ) (Q : A → ℕ → Type 0) (m : Reader A) : Type 0 where
  pub found : (a : A) (q : ℕ) → m bytes p ≡ got a q → Q a q

module _ {A : Type 0} (bytes : List ℕ) (p : ℕ) (Q : A → ℕ → Type 0) where
  -- Giving a value that has it.
  pub finds_give : (a : A) → Q a p → Finds bytes p Q (give a)
  unfolding give
  finds_give a h = record { found = λ b q e. let k : a ≡ b = cc in let l : p ≡ q = cc in subst (λ (x : ℕ). Q b x) l (subst (λ (x : A). Q x p) k h) }

  -- Refusing gives nothing.
  pub finds_refuse : (r : ℕ) → Finds bytes p Q (refuse r)
  unfolding refuse
  finds_refuse r = record { found = λ b q e. let z : ◌≡◌ {A = ℕ} 0 1 = cc in absurd (omega arith) }

  -- The choice between two readers.
  pub finds_if : (b : Bool) (m n : Reader A) → (b ≡ true → Finds bytes p Q m) → (b ≡ false → Finds bytes p Q n) → Finds bytes p Q (if b then m else n)
  finds_if true m n x y = x refl
  finds_if false m n x y = y refl

  -- Going on only if a test passes.
  pub finds_check : (b : Bool) (r : ℕ) (m : Reader A) → (b ≡ true → Finds bytes p Q m) → Finds bytes p Q (check b r m)
  unfolding check
  finds_check true r m x = x refl
  finds_check false r m x = finds_refuse r

-- One reader behind another.
pub finds_behind : {A B : Type 0} (bytes : List ℕ) (p : ℕ) (Q : B → ℕ → Type 0) (m : Reader A) (k : A → Reader B) → ((a : A) (r : ℕ) → m bytes p ≡ got a r → Finds bytes r Q (k a)) → Finds bytes p Q (m >>= k)
finds_behind bytes p Q m k y = record { found = λ b q e. let h = got_behind m k bytes p b q e in (y h.value h.middle h.first).found b q h.second }

-- What one reader gives, another gives too, with the same position after it.
abbrev pub Keeps : {A : Type 0} → Reader A → Reader A → Type 0
Keeps {A} m m' = (bytes : List ℕ) (p : ℕ) (a : A) (q : ℕ) → m bytes p ≡ got a q → m' bytes p ≡ got a q

module _ {A : Type 0} where
  -- The choice between two readers.
  pub keeps_if : (b : Bool) (m m' n n' : Reader A) → Keeps m m' → Keeps n n' → Keeps (if b then m else n) (if b then m' else n')
  keeps_if true m m' n n' x y = x
  keeps_if false m m' n n' x y = y

  -- A reader that refuses gives nothing.
  pub keeps_refuse : (r : ℕ) (m : Reader A) → Keeps (refuse r) m
  unfolding refuse
  keeps_refuse r m bytes p a q e = let z : ◌≡◌ {A = ℕ} 0 1 = cc in absurd (omega arith)

  -- Going on only if a test passes.
  keeps_passed : (b : Bool) (r : ℕ) (m : Reader A) → Keeps (check b r m) (check true r m)
  unfolding check
  keeps_passed true r m = λ bytes p a q e. e
  keeps_passed false r m = keeps_refuse r m

-- One reader behind another.
pub keeps_behind : {A B : Type 0} (m m' : Reader A) (k k' : A → Reader B) → Keeps m m' → ((a : A) → Keeps (k a) (k' a)) → Keeps (m >>= k) (m' >>= k')
keeps_behind m m' k k' x y bytes p b q e =
    let h = got_behind m k bytes p b q e in
    behind_got m' k' bytes p (x bytes p h.value h.middle h.first) ∙ y h.value bytes h.middle b q h.second

-- What is kept by each level more is kept by any number of levels more.
pub keeps_levels : {A : Type 0} (m : ℕ → Reader A) → ((d : ℕ) → Keeps (m d) (m (suc d))) → (d d' : ℕ) → d ≤ d' → Keeps (m d) (m d')
keeps_levels m step d d' h bytes p a q e = go (d' - d) d' (omega arith)
  where
    go : (i j : ℕ) → j ≡ i + d → m j bytes p ≡ got a q
    go zero j l = let z : j ≡ d = omega arith in rw z e
    go (suc i) j l = let z : j ≡ suc (i + d) = omega arith in rw z (step (i + d) bytes p a q (go i (i + d) refl))

-- Bits behind a number stay below what the next number would begin.
onto_below : (bytes : List ℕ) (high p k : ℕ) → bits_onto bytes high p k < (high + 1) * 2 ^ k
unfolding bits_onto bit_at
onto_below bytes high p zero = omega arith
onto_below bytes high p (suc k) =
    let bit : high * 2 + bit_at bytes p + 1 ≤ (high + 1) * 2 = omega arith in
    let twice : (high + 1) * 2 * 2 ^ k ≡ (high + 1) * 2 ^ suc k = rw (pow-succ', mul_assoc) in
    omega (arith, onto_below bytes (high * 2 + bit_at bytes p) (p + 1) k, mul-le-mul_right (2 ^ k) bit)

-- A number of k bits is below 2 ^ k.
pub bits_below : (bytes : List ℕ) (p k : ℕ) → bits_at bytes p k < 2 ^ k
unfolding bits_at
bits_below bytes p k = omega (arith, onto_below bytes 0 p k)

-- What a field of k bits gives: the position k further, which is inside the bytes, and the number that stands there.
pub field_got : (k : ℕ) (bytes : List ℕ) (p v q : ℕ) → field k bytes p ≡ got v q → (q ≡ p + k) × (p + k ≤ 8 * length bytes) × (v ≡ bits_at bytes p k)
unfolding field
field_got k bytes p v q e = go (leb (p + k) (8 * length bytes)) refl e
  where
    go : (b : Bool) → leb (p + k) (8 * length bytes) ≡ b → ◌≡◌ {A = Read ℕ} (if b then got (bits_at bytes p k) (p + k) else fault 2) (got v q) → (q ≡ p + k) × (p + k ≤ 8 * length bytes) × (v ≡ bits_at bytes p k)
    go true l h = (cc, leb-true (p + k) (8 * length bytes) l, cc)
    go false l h = let z : ◌≡◌ {A = ℕ} 0 1 = cc in absurd (omega arith)

-- A reader behind a field, which goes on from the position after it.
pub finds_field : {A : Type 0} (bytes : List ℕ) (p : ℕ) (Q : A → ℕ → Type 0) (k r : ℕ) → p + k ≡ r → (m : ℕ → Reader A) → ((v : ℕ) → field k bytes p ≡ got v r → r ≤ 8 * length bytes → Finds bytes r Q (m v))
    → Finds bytes p Q (field k >>= m)
finds_field bytes p Q k r h m y =
    finds_behind bytes p Q (field k) m (λ v i e.
    let g = field_got k bytes p v i e in
    let l : i ≡ r = omega arith in
    subst (λ (j : ℕ). Finds bytes j Q (m v)) (sym l) (y v (subst (λ (j : ℕ). field k bytes p ≡ got v j) l e) (omega arith)))

-- It is below 2 ^ k.
pub field_below : (k : ℕ) → Gives (λ v. v < 2 ^ k) (field k)
field_below k bytes p v q e = let g = field_got k bytes p v q e in omega (arith, bits_below bytes p k)

-- Every action number in a program is below k.
unfoldable pub NumbersBelow : (k : ℕ) → Program → Type 0
NumbersBelow k end = Unit {0}
NumbersBelow k (act a rest) = (a < k) × NumbersBelow k rest
NumbersBelow k (branch f p q rest) = NumbersBelow k p × NumbersBelow k q × NumbersBelow k rest

-- What is counted up to a program's end: the nodes before it and its own, within the limits if those before it were. Its action numbers are below k.
pub record Counts (k acts branches : ℕ) (c : ProgramRead) : Type 0 where
  pub acts_counted : c.acts ≡ acts + action_nodes c.program
  pub branches_counted : c.branches ≡ branches + branch_nodes c.program
  pub acts_within : acts ≤ most_acts → c.acts ≤ most_acts
  pub branches_within : branches ≤ most_branches → c.branches ≤ most_branches
  pub numbers : NumbersBelow k c.program

-- The first node of a program is within the limits.
abbrev pub Fits : (acts branches : ℕ) → ProgramNode → Type 0
Fits acts branches end_node = Unit {0}
Fits acts branches (act_node a) = acts < most_acts
Fits acts branches branch_node = branches < most_branches

pub node_fits : (acts branches : ℕ) → Gives (Fits acts branches) (program_node acts branches)
unfolding program_node
node_fits acts branches =
    gives_any Q (field 2) _ (λ tag.
    gives_if Q (eqb tag 0) _ _ (gives_give Q end_node tt)
    (gives_if Q (eqb tag 1) _ _ (gives_check Q (ltb acts most_acts) 11 _ (λ t. gives_any Q (field 5) _ (λ a. gives_give Q (act_node a) (ltb-true acts most_acts t))))
    (gives_if Q (eqb tag 2) _ _ (gives_check Q (ltb branches most_branches) 11 _ (λ t. gives_give Q branch_node (ltb-true branches most_branches t)))
    (gives_refuse Q 10))))
  where
    Q : ProgramNode → Type 0
    Q = Fits acts branches

-- The action number of a first node has 5 bits.
abbrev pub FiveBits : ProgramNode → Type 0
FiveBits end_node = Unit {0}
FiveBits (act_node a) = a < 32
FiveBits branch_node = Unit {0}

pub node_numbered : (acts branches : ℕ) → Gives FiveBits (program_node acts branches)
unfolding program_node
node_numbered acts branches =
    gives_any FiveBits (field 2) _ (λ tag.
    gives_if FiveBits (eqb tag 0) _ _ (gives_give FiveBits end_node tt)
    (gives_if FiveBits (eqb tag 1) _ _
    (gives_check FiveBits (ltb acts most_acts) 11 _ (λ t. gives_behind (λ a. a < 32) FiveBits (field 5) _ (field_below 5) (λ a l. gives_give FiveBits (act_node a) l)))
    (gives_if FiveBits (eqb tag 2) _ _ (gives_check FiveBits (ltb branches most_branches) 11 _ (λ t. gives_give FiveBits branch_node tt)) (gives_refuse FiveBits 10))))

-- A first node is one too where fewer nodes were read before it.
pub node_anywhere : (acts branches : ℕ) → Keeps (program_node acts branches) (program_node 0 0)
unfolding program_node
node_anywhere acts branches =
    keeps_behind (field 2) (field 2) _ _ (λ bytes p a q e. e) (λ tag.
    keeps_if (eqb tag 0) _ _ _ _ (λ bytes p a q e. e)
    (keeps_if (eqb tag 1) _ _ _ _ (keeps_passed (ltb acts most_acts) 11 _) (keeps_if (eqb tag 2) _ _ _ _ (keeps_passed (ltb branches most_branches) 11 _) (λ bytes p a q e. e))))

-- One level of a program, whose parts count.
module _ (n k : ℕ) (part : ℕ → ℕ → Reader ProgramRead) (counts : (acts branches : ℕ) → Gives (Counts k acts branches) (part acts branches)) (acts branches : ℕ) where
  behind_counts : (h : ProgramNode) → Fits acts branches h → Gives (Counts k acts branches) (program_behind n k part acts branches h)
  unfolding program_behind action_nodes branch_nodes NumbersBelow
  behind_counts end_node fits = gives_give (Counts k acts branches) _ (record { acts_counted = omega arith; branches_counted = omega arith; acts_within = λ l. l; branches_within = λ l. l; numbers = tt })
  behind_counts (act_node a) fits =
      gives_check Q (ltb a k) 9 _ (λ u. gives_behind (Counts k (acts + 1) branches) Q (part (acts + 1) branches) _ (counts (acts + 1) branches) (λ x hx.
      gives_give Q _ (record {
        acts_counted = omega (arith, hx.acts_counted);
        branches_counted = omega (arith, hx.branches_counted);
        acts_within = λ l. hx.acts_within (omega (arith, fits));
        branches_within = hx.branches_within;
        numbers = (ltb-true a k u, hx.numbers);
      })))
    where
      Q : ProgramRead → Type 0
      Q = Counts k acts branches
  behind_counts branch_node fits =
      gives_any Q (epistemic n deepest) _ (λ f.
      behind_part acts (branches + 1) _ (λ x hx.
      behind_part x.acts x.branches _ (λ y hy.
      behind_part y.acts y.branches _ (λ z hz.
      gives_give Q _ (record {
        acts_counted = omega (arith, hx.acts_counted, hy.acts_counted, hz.acts_counted);
        branches_counted = omega (arith, hx.branches_counted, hy.branches_counted, hz.branches_counted);
        acts_within = λ l. hz.acts_within (hy.acts_within (hx.acts_within l));
        branches_within = λ l. hz.branches_within (hy.branches_within (hx.branches_within (omega (arith, fits))));
        numbers = (hx.numbers, hy.numbers, hz.numbers);
      })))))
    where
      Q : ProgramRead → Type 0
      Q = Counts k acts branches

      behind_part : (a b : ℕ) (m : ProgramRead → Reader ProgramRead) → ((c : ProgramRead) → Counts k a b c → Gives Q (m c)) → Gives Q (part a b >>= m)
      behind_part a b m y = gives_behind (Counts k a b) Q (part a b) m (counts a b) y

  -- It is read alike with other parts that read alike where fewer nodes may still come.
  behind_same : (part' : ℕ → ℕ → Reader ProgramRead) → ((a b : ℕ) → (most_acts - a) + (most_branches - b) < (most_acts - acts) + (most_branches - branches) → Same (part a b) (part' a b)) → (h : ProgramNode) → Fits acts branches h
      → Same (program_behind n k part acts branches h) (program_behind n k part' acts branches h)
  unfolding program_behind
  behind_same part' alike end_node fits = λ bytes p. refl
  behind_same part' alike (act_node a) fits = same_check (ltb a k) 9 _ _ (λ u. same_behind (Counts k (acts + 1) branches) (part (acts + 1) branches) (part' (acts + 1) branches) _ _ (counts (acts + 1) branches) (alike (acts + 1) branches (omega (arith, fits))) (λ x hx bytes p. refl))
  behind_same part' alike branch_node fits =
      same_any (epistemic n deepest) _ _ (λ f.
      same_part acts (branches + 1) (omega (arith, fits)) _ _ (λ x hx.
      same_part x.acts x.branches (omega (arith, fits, hx.acts_counted, hx.branches_counted)) _ _ (λ y hy.
      same_part y.acts y.branches (omega (arith, fits, hx.acts_counted, hx.branches_counted, hy.acts_counted, hy.branches_counted)) _ _ (λ z hz bytes p. refl))))
    where
      same_part : (a b : ℕ) → (most_acts - a) + (most_branches - b) < (most_acts - acts) + (most_branches - branches) → (m m' : ProgramRead → Reader ProgramRead) → ((c : ProgramRead) → Counts k a b c → Same (m c) (m' c))
          → Same (part a b >>= m) (part' a b >>= m')
      same_part a b fewer m m' y = same_behind (Counts k a b) (part a b) (part' a b) m m' (counts a b) (alike a b fewer) y

module _ (n k : ℕ) where
  -- A program that is read counts its nodes.
  pub program_counts : (d acts branches : ℕ) → Gives (Counts k acts branches) (program_within n k d acts branches)
  unfolding program_within
  program_counts zero acts branches = gives_refuse (Counts k acts branches) 11
  program_counts (suc d) acts branches =
      gives_behind (Fits acts branches) (Counts k acts branches) (program_node acts branches) _ (node_fits acts branches) (behind_counts n k (program_within n k d) (program_counts d) acts branches)

  -- A program is read alike with one level more, where the levels exceed the action nodes and branch nodes that may still come.
  pub enough_levels : (d acts branches : ℕ) → (most_acts - acts) + (most_branches - branches) < d → Same (program_within n k (suc d) acts branches) (program_within n k d acts branches)
  unfolding program_within
  enough_levels zero acts branches h = absurd (omega arith)
  enough_levels (suc d) acts branches h =
      same_behind (Fits acts branches) (program_node acts branches) (program_node acts branches) _ _ (node_fits acts branches) (λ bytes p. refl)
      (behind_same n k (program_within n k (suc d)) (program_counts (suc d)) acts branches (program_within n k d) (λ a b i. enough_levels d a b (omega arith)))

  -- So these levels are enough, whatever was read before.
  pub more_levels : (d acts branches : ℕ) → Same (program_within n k (levels + d) acts branches) (program_within n k levels acts branches)
  more_levels zero acts branches bytes p = refl
  more_levels (suc d) acts branches bytes p = rw add-suc (enough_levels (levels + d) acts branches (omega arith) bytes p ∙ more_levels d acts branches bytes p)
