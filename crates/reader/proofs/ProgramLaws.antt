-- Laws of programs read by their first nodes, as the code counts them. Assumes nothing.
use Prim.Native.Nat.{ℕ, ◌+◌, ◌-◌, ◌<◌, ◌≤◌}
use mathlib.Core.Path.{◌≡◌, refl, ap, ◌∙◌}
use mathlib.Core.List.{List}
use borrow.Author.Tests.{lt-ltb, le-ltb}
use Rattle.format.specs.Syntax.{Epistemic, act, branch}
use Rattle.format.specs.Format.{Read, got, fault, Reader, and_then, ◌>>=◌, mapped, give, refuse, check, deepest, epistemic, ProgramRead, end_node, act_node, branch_node, program_node, program_behind, program_within}
use Rattle.format.proofs.FormatLaws.{behind_got, behind_fault}
use Rattle.format.proofs.ReaderLaws.{mapped_got, mapped_fault, mapped_give, program_refused, program_node_law}
use Rattle.reader.specs.Method.{ending, counts}

-- Three programs, one after the other, with the nodes counted before them.
unfoldable pub three : (part : (acts branches p : ℕ) → Read (ℕ × ℕ)) (acts branches p : ℕ) → Read (ℕ × ℕ)
three part a b p = and_then (part a b p) (λ c q. and_then (part c.0 c.1 q) (λ e r. part e.0 e.1 r))

module _ (part : (acts branches p : ℕ) → Read (ℕ × ℕ)) {a b p : ℕ} where
  -- The first is refused.
  pub three_first : {r : ℕ} → part a b p ≡ fault r → three part a b p ≡ fault r
  unfolding three and_then
  three_first e = rw e

  module _ {a' b' q : ℕ} (e : part a b p ≡ got (a', b') q) where
    -- The second is refused.
    pub three_second : {r : ℕ} → part a' b' q ≡ fault r → three part a b p ≡ fault r
    unfolding three and_then
    three_second f = rw (e, f)

    -- Both were read: what is left is the third.
    pub three_third : {a'' b'' r : ℕ} → part a' b' q ≡ got (a'', b'') r → three part a b p ≡ part a'' b'' r
    unfolding three and_then
    three_third f = rw (e, f)

-- A branch behind its condition.
abbrev branch_parts : (n : ℕ) (part : ℕ → ℕ → Reader ProgramRead) (acts branches : ℕ) → Epistemic → Reader ProgramRead
branch_parts n part acts branches f =
    part acts (branches + 1) >>= λ x. part x.acts x.branches >>= λ y. part y.acts y.branches >>= λ z.
    give (record { program = branch f x.program y.program z.program; acts = z.acts; branches = z.branches })

-- What a branch counts behind its condition.
branch_counts : (part : ℕ → ℕ → Reader ProgramRead) (f : Epistemic) (acts branches : ℕ) (bytes : List ℕ) (p : ℕ)
    → mapped counts ((part acts branches >>= λ x. part x.acts x.branches >>= λ y. part y.acts y.branches >>= λ z.
    give (record { program = branch f x.program y.program z.program; acts = z.acts; branches = z.branches })) bytes p)
    ≡ three (λ a b q. mapped counts (part a b bytes q)) acts branches p
unfolding ◌>>=◌ and_then mapped give three counts
branch_counts part f acts branches bytes p = one (part acts branches bytes p)
  where
    whole : (x y z : ProgramRead) → ProgramRead
    whole x y z = record { program = branch f x.program y.program z.program; acts = z.acts; branches = z.branches }

    last : (x y : ProgramRead) (r : Read ProgramRead) → mapped counts (and_then r (λ z q. got (whole x y z) q)) ≡ mapped counts r
    last x y (got z q) = refl
    last x y (fault r) = refl

    two : (x : ProgramRead) (r : Read ProgramRead)
        → mapped counts (and_then r (λ y q. and_then (part y.acts y.branches bytes q) (λ z i. got (whole x y z) i)))
        ≡ and_then (mapped counts r) (λ e q. mapped counts (part e.0 e.1 bytes q))
    two x (got y q) = last x y (part y.acts y.branches bytes q)
    two x (fault r) = refl

    one : (r : Read ProgramRead)
        → mapped counts (and_then r (λ x q. and_then (part x.acts x.branches bytes q) (λ y i. and_then (part y.acts y.branches bytes i) (λ z j. got (whole x y z) j))))
        ≡ and_then (mapped counts r) (λ c q. and_then (mapped counts (part c.0 c.1 bytes q)) (λ e i. mapped counts (part e.0 e.1 bytes i)))
    one (got x q) = two x (part x.acts x.branches bytes q)
    one (fault r) = refl

-- A program with levels left, by its first node.
module _ (n k d acts branches : ℕ) (bytes : List ℕ) (p : ℕ) (some : d ≡ 0 → ⊥) where
  -- Where that is refused, so is the program.
  pub counts_refused : {r : ℕ} → program_node acts branches bytes p ≡ fault r → mapped counts (program_within n k d acts branches bytes p) ≡ fault r
  unfolding mapped
  counts_refused e = ap (mapped counts) (program_refused n k d acts branches bytes p some e)

  pub program_ends : {q : ℕ} → program_node acts branches bytes p ≡ got end_node q → mapped counts (program_within n k d acts branches bytes p) ≡ got (acts, branches) q
  unfolding program_behind give mapped counts
  program_ends e = ap (mapped counts) (program_node_law n k d acts branches bytes p some e)

  -- There is no such action.
  pub program_out : {a q : ℕ} → program_node acts branches bytes p ≡ got (act_node a) q → k ≤ a → mapped counts (program_within n k d acts branches bytes p) ≡ fault 9
  unfolding program_behind check refuse mapped
  program_out {a} e l = ap (mapped counts) (program_node_law n k d acts branches bytes p some e) ∙ rw (le-ltb a k l)

  pub program_act : {a q : ℕ} → program_node acts branches bytes p ≡ got (act_node a) q → a < k
      → mapped counts (program_within n k d acts branches bytes p) ≡ mapped counts (program_within n k (d - 1) (acts + 1) branches bytes q)
  unfolding program_behind check counts
  program_act {a} {q} e l =
      ap (mapped counts) (program_node_law n k d acts branches bytes p some e)
      ∙ rw (lt-ltb a k l) (mapped_give counts (program_within n k (d - 1) (acts + 1) branches) (λ c. record { program = act a c.program; acts = c.acts; branches = c.branches }) bytes q)

  -- The condition of a branch is refused.
  pub condition_refused : {q r : ℕ} → program_node acts branches bytes p ≡ got branch_node q → mapped ending (epistemic n deepest bytes q) ≡ fault r
      → mapped counts (program_within n k d acts branches bytes p) ≡ fault r
  unfolding program_behind mapped
  condition_refused {q} e f =
      ap (mapped counts) (program_node_law n k d acts branches bytes p some e
      ∙ behind_fault (epistemic n deepest) (branch_parts n (program_within n k (d - 1)) acts branches) bytes q (mapped_fault ending (epistemic n deepest bytes q) f))

  pub program_branch : {q i : ℕ} → program_node acts branches bytes p ≡ got branch_node q → mapped ending (epistemic n deepest bytes q) ≡ got tt i
      → mapped counts (program_within n k d acts branches bytes p) ≡ three (λ a b j. mapped counts (program_within n k (d - 1) a b bytes j)) acts (branches + 1) i
  unfolding program_behind
  program_branch {q} {i} e f =
      let w = mapped_got ending (epistemic n deepest bytes q) f in
      ap (mapped counts) (program_node_law n k d acts branches bytes p some e ∙ behind_got (epistemic n deepest) (branch_parts n (program_within n k (d - 1)) acts branches) bytes q w.1)
      ∙ branch_counts (program_within n k (d - 1)) w.0 acts (branches + 1) bytes i
