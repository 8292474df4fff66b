-- What the code reads and tests tells what `reading` does: the fields behind the header, and the tests behind these. Assumes nothing.
use Prim.Native.Nat.{ℕ, ◌-◌, ◌*◌, ◌≤◌, ◌<◌}
use mathlib.Core.Path.{◌≡◌, refl, sym, ap, ap₂, ◌∙◌}
use mathlib.Core.List.{List, [], ◌∷◌, flat_map}
use mathlib.Core.Bool.{Bool, true, false, ◌&&◌}
use native.Mathlib.Omega.{arith}
use Rattle.std.specs.Prelude.{Result}
use lib.Dec.{eqb}
use lib.ListN.{length}
use borrow.Author.Tests.{lt-ltb, le-ltb}
use Rattle.lists.specs.Lists.{exists, nonempty}
use Rattle.lists.proofs.ListLaws.{same_test, both_true, and_both, exists_mem, mem_exists, mem_nonempty, nonempty_mem}
use Rattle.states.specs.declared.States.{States}
use Rattle.states.specs.Sets.{member, set_of, members}
use Rattle.states.proofs.SetLaws.{member_set_of, members_set_of, members_mem, mem_members}
use Rattle.format.specs.Syntax.{Objective, Action, Sheet}
use Rattle.format.specs.Bits.{bits_onto, bits_at}
use Rattle.format.specs.Truth.{in_space, space_of, states, truth, holds}
use Rattle.format.specs.Format.{Answer, refused, Read, got, fault, mapped, most_bytes, most_facts, deepest, objective, epistemic, action_list, ProgramRead, program_within, levels, program, is_edition, Header, header, body, is_padding, has_start, unless, action_faults, faults, decided, after_fields, of_sheet, reading}
use Rattle.format.proofs.FormatLaws.{Finds, finds_give, finds_behind, behind_got, behind_fault}
use Rattle.format.proofs.ReaderLaws.{mapped_got, mapped_fault, mapped_give}
use Rattle.format.proofs.SheetLaws.{program_is, reading_refused, header_short, header_limits, reading_body}
use Rattle.format.proofs.StateLaws.{space_bytes}
use Rattle.reader.proofs.PackedLaws.{packed_refused}
use Rattle.reader.specs.Answers.{answer_of, without_value, packed, space_set, HeaderKept, spaced, kept_of, states_in}
use Rattle.reader.specs.Method.{ending, counts, header_of, start_states}
use Rattle.reader.specs.declared.layout.Header.{Header as HeaderValue}
use Rattle.reader.specs.declared.refusal.Refusal.{Refusal}
use Rattle.reader.specs.declared.formula.View.{View}

-- The bits that are left after a position: none, fewer than eight, or more.
module _ (bytes : List ℕ) (p : ℕ) where
  pub padding_none : 8 * length bytes ≤ p → is_padding bytes p ≡ true
  unfolding is_padding bits_at bits_onto
  padding_none h = let e : 8 * length bytes - p ≡ 0 = omega arith in rw e

  pub padding_many : 8 ≤ 8 * length bytes - p → is_padding bytes p ≡ false
  unfolding is_padding
  padding_many h = rw (le-ltb (8 * length bytes - p) 8 h)

  pub padding_few : 8 * length bytes - p < 8 → is_padding bytes p ≡ eqb (bits_at bytes p (8 * length bytes - p)) 0
  unfolding is_padding
  padding_few h = rw (lt-ltb (8 * length bytes - p) 8 h)

-- The fields behind the header, as far as the code keeps them: the set of the start formula, and where they end.
module _ (h : Header) (bytes : List ℕ) (p : ℕ) where
  pub no_actions : {r : ℕ} → mapped ending (action_list h.facts h.actions bytes p) ≡ fault r → mapped start_states (body h bytes p) ≡ fault r
  unfolding mapped
  no_actions e = ap (mapped start_states) (behind_fault (action_list h.facts h.actions) _ bytes p (mapped_fault ending (action_list h.facts h.actions bytes p) e))

  module _ {q : ℕ} (e : mapped ending (action_list h.facts h.actions bytes p) ≡ got tt q) where
    pub no_start : {r : ℕ} → mapped (states_in View.States) (objective h.facts false deepest bytes q) ≡ fault r → mapped start_states (body h bytes p) ≡ fault r
    unfolding mapped
    no_start f =
        ap (mapped start_states) (behind_got (action_list h.facts h.actions) _ bytes p (mapped_got ending (action_list h.facts h.actions bytes p) e).1
        ∙ behind_fault (objective h.facts false deepest) _ bytes q (mapped_fault (states_in View.States) (objective h.facts false deepest bytes q) f))

    module _ {set : States} {i : ℕ} (f : mapped (states_in View.States) (objective h.facts false deepest bytes q) ≡ got set i) where
      pub no_goal : {r : ℕ} → mapped ending (epistemic h.facts deepest bytes i) ≡ fault r → mapped start_states (body h bytes p) ≡ fault r
      unfolding mapped
      no_goal g =
          ap (mapped start_states) (behind_got (action_list h.facts h.actions) _ bytes p (mapped_got ending (action_list h.facts h.actions bytes p) e).1
          ∙ behind_got (objective h.facts false deepest) _ bytes q (mapped_got (states_in View.States) (objective h.facts false deepest bytes q) f).1
          ∙ behind_fault (epistemic h.facts deepest) _ bytes i (mapped_fault ending (epistemic h.facts deepest bytes i) g))

      module _ {j : ℕ} (g : mapped ending (epistemic h.facts deepest bytes i) ≡ got tt j) where
        -- What is left is the program.
        program_left : mapped start_states (body h bytes p) ≡ mapped (λ (c : ProgramRead). set) (program_within h.facts h.actions levels 0 0 bytes j)
        unfolding start_states
        program_left =
            let x = mapped_got ending (action_list h.facts h.actions bytes p) e in
            let y = mapped_got (states_in View.States) (objective h.facts false deepest bytes q) f in
            let z = mapped_got ending (epistemic h.facts deepest bytes i) g in
            ap (mapped start_states) (behind_got (action_list h.facts h.actions) _ bytes p x.1 ∙ behind_got (objective h.facts false deepest) _ bytes q y.1
            ∙ behind_got (epistemic h.facts deepest) _ bytes i z.1)
            ∙ mapped_give start_states (program h.facts h.actions) (λ c. record { facts = h.facts; constraint = h.constraint; actions = x.0; start = y.0; goal = z.0; program = c.program }) bytes j
            ∙ ap (λ (s : States). mapped (λ (c : ProgramRead). s) (program h.facts h.actions bytes j)) y.2
            ∙ ap (mapped (λ (c : ProgramRead). set)) (program_is h.facts h.actions bytes j)

        pub no_program : {r : ℕ} → mapped counts (program_within h.facts h.actions levels 0 0 bytes j) ≡ fault r → mapped start_states (body h bytes p) ≡ fault r
        unfolding mapped
        no_program k = program_left ∙ ap (mapped (λ (c : ProgramRead). set)) (mapped_fault counts (program_within h.facts h.actions levels 0 0 bytes j) k)

        pub body_got : {c : ℕ × ℕ} {l : ℕ} → mapped counts (program_within h.facts h.actions levels 0 0 bytes j) ≡ got c l → mapped start_states (body h bytes p) ≡ got set l
        unfolding mapped
        body_got k = program_left ∙ ap (mapped (λ (c : ProgramRead). set)) (mapped_got counts (program_within h.facts h.actions levels 0 0 bytes j) k).1

  -- What was read behind the header: its actions, over its facts and under its constraint.
  pub record BodyRead (sheet : Sheet) : Type 0 where
    pub actions_end : ℕ
    pub actions_read : action_list h.facts h.actions bytes p ≡ got sheet.actions actions_end
    pub facts_are : sheet.facts ≡ h.facts
    pub constraint_is : sheet.constraint ≡ h.constraint

  body_read : Finds bytes p (λ sheet q. BodyRead sheet) (body h)
  body_read =
      finds_behind bytes p _ (action_list h.facts h.actions) _ (λ actions i e.
      finds_behind bytes i _ (objective h.facts false deepest) _ (λ start j f.
      finds_behind bytes j _ (epistemic h.facts deepest) _ (λ goal l g.
      finds_behind bytes l _ (program h.facts h.actions) _ (λ c q k.
      finds_give bytes q _ _ (record { actions_end = i; actions_read = e; facts_are = refl; constraint_is = refl })))))

-- The states of a space and those in which a formula holds have one in common exactly if the formula holds in some state of the space.
pub common_start : (space : States) (f : Objective) → exists (holds f) (members space) ≡ nonempty (members (set_of (λ s. member (states_in View.States f) s && member space s)))
unfolding states_in holds
common_start space f = same_test (exists (holds f) (members space)) (nonempty (members (set_of in_both))) there back
  where
    start : States
    start = set_of (λ s. truth f s s)

    in_both : ℕ → Bool
    in_both s = member start s && member space s

    there : exists (holds f) (members space) ≡ true → nonempty (members (set_of in_both)) ≡ true
    there e =
        let w = exists_mem (holds f) (members space) e in
        let m = members_mem space w.1 in
        let b = and_both (member start w.0) (member space w.0) (member_set_of (λ s. truth f s s) w.0 m.0 ∙ w.2) m.1 in
        mem_nonempty (members (set_of in_both)) (mem_members (set_of in_both) w.0 m.0 (member_set_of in_both w.0 m.0 ∙ b))

    back : nonempty (members (set_of in_both)) ≡ true → exists (holds f) (members space) ≡ true
    back e =
        let w = nonempty_mem (members (set_of in_both)) e in
        let m = members_mem (set_of in_both) w.1 in
        let b = both_true (member start w.0) (member space w.0) (sym (member_set_of in_both w.0 m.0) ∙ m.1) in
        mem_exists (holds f) (members space) (mem_members space w.0 m.0 b.1) (sym (member_set_of (λ s. truth f s s) w.0 m.0) ∙ b.0)

-- The members of the set of the states over n facts are these states.
space_members : (n : ℕ) (constraint : Objective) → n ≤ most_facts → members (space_set n constraint) ≡ space_of n constraint
unfolding space_set
space_members n constraint few = members_set_of (in_space n constraint) ∙ space_bytes n constraint few

-- Which test fails first doesn't depend on the value.
same_decision : {A B : Type 0} (xs : List ℕ) (a : A) (b : B) → without_value (decided xs a) ≡ without_value (decided xs b)
unfolding decided without_value
same_decision [] a b = refl
same_decision (x ∷ xs) a b = refl

-- The tests behind the fields, as the code makes them.
module _ (h : Header) (few : h.facts ≤ most_facts) (bytes : List ℕ) (p : ℕ) (sheet : Sheet) (q : ℕ) (read : body h bytes p ≡ got sheet q) where
  pub unpadded : is_padding bytes q ≡ false → without_value (decided (faults action_faults bytes q sheet) sheet) ≡ refused 12
  unfolding faults unless decided without_value
  unpadded e = rw e

  module _ (padded : is_padding bytes q ≡ true) {space : States} (s : space ≡ space_set h.facts h.constraint) where
    space_is : states sheet ≡ members space
    unfolding states
    space_is =
        let b = (body_read h bytes p).found sheet q read in
        ap₂ space_of b.facts_are b.constraint_is ∙ sym (ap members s ∙ space_members h.facts h.constraint few)

    has_state : nonempty (states sheet) ≡ nonempty (members space)
    has_state = ap nonempty space_is

    pub stateless : nonempty (members space) ≡ false → without_value (decided (faults action_faults bytes q sheet) sheet) ≡ refused 16
    unfolding faults unless decided without_value
    stateless e = rw (padded, has_state, e)

    module _ (some : nonempty (members space) ≡ true) {common : States} (e : common ≡ set_of (λ s. member (start_states sheet) s && member space s)) where
      has_start_law : has_start (states sheet) sheet.start ≡ nonempty (members common)
      unfolding has_start start_states
      has_start_law = ap (exists (holds sheet.start)) space_is ∙ common_start space sheet.start ∙ ap (λ (x : States). nonempty (members x)) (sym e)

      pub startless : nonempty (members common) ≡ false → without_value (decided (faults action_faults bytes q sheet) sheet) ≡ refused 13
      unfolding faults unless decided without_value
      startless f = rw (padded, has_state, some, has_start_law, f)

      -- The tests of the actions decide.
      pub actions_tested : nonempty (members common) ≡ true → (r : Result ℕ Refusal)
          → ((actions : List Action) (end : ℕ) → action_list h.facts h.actions bytes p ≡ got actions end → answer_of r ≡ decided (flat_map (action_faults (members space)) actions) end)
          → without_value (answer_of r) ≡ without_value (decided (faults action_faults bytes q sheet) sheet)
      unfolding faults unless
      actions_tested starts r tested =
          let b = (body_read h bytes p).found sheet q read in
          ap without_value (tested sheet.actions b.actions_end b.actions_read)
          ∙ ap (λ (x : List ℕ). without_value (decided (flat_map (action_faults x) sheet.actions) b.actions_end)) (sym space_is)
          ∙ rw (padded, has_state, some, has_start_law, starts) (same_decision (flat_map (action_faults (states sheet)) sheet.actions) b.actions_end sheet)

-- The whole, by what the code keeps of the header.
module _ (bytes : List ℕ) where
  -- A header that is refused.
  pub no_header : {r : ℕ} → mapped spaced (of_sheet (header is_edition) bytes 0) ≡ fault r → without_value (reading bytes) ≡ refused r
  unfolding without_value
  no_header e = ap without_value (reading_refused bytes (mapped_fault spaced (of_sheet (header is_edition) bytes 0) e))

  module _ (h : HeaderValue) (e : mapped spaced (of_sheet (header is_edition) bytes 0) ≡ got (kept_of h) h.at) where
    abbrev found : (x : Header) × (of_sheet (header is_edition) bytes 0 ≡ got x h.at) × (spaced x ≡ kept_of h)
    found = mapped_got spaced (of_sheet (header is_edition) bytes 0) e

    -- One that is read has a constraint,
    abbrev constraint : Objective
    constraint = found.0.constraint

    header_is : of_sheet (header is_edition) bytes 0 ≡ got (header_of h constraint) h.at
    unfolding spaced kept_of header_of
    header_is = found.1 ∙ ap (λ (x : HeaderKept). got (record { edition = x.edition; facts = x.facts; constraint = constraint; actions = x.actions }) h.at) found.2

    -- whose states are kept.
    read_space : h.space ≡ space_set h.facts constraint
    unfolding spaced kept_of
    read_space = sym (ap (λ (x : HeaderKept). x.space) found.2) ∙ ap (λ (x : HeaderKept). space_set x.facts constraint) found.2

    pub read_limits : h.facts ≤ most_facts
    unfolding header_of
    read_limits = (header_limits bytes header_is).facts_most

    -- What the fields behind it are: a refusal,
    pub no_body : {r : ℕ} → ((c : Objective) → mapped start_states (body (header_of h c) bytes h.at) ≡ fault r) → without_value (reading bytes) ≡ refused r
    unfolding without_value after_fields
    no_body f =
        ap without_value (reading_body bytes header_is)
        ∙ ap (λ (x : Read Sheet). without_value (after_fields action_faults bytes x)) (mapped_fault start_states (body (header_of h constraint) bytes h.at) (f constraint))

    -- or a sheet, which is tested.
    pub read_tested : {start : States} {q : ℕ} {a : Answer (Unit {0})} → ((c : Objective) → mapped start_states (body (header_of h c) bytes h.at) ≡ got start q)
        → ((c : Objective) (sheet : Sheet) → h.space ≡ space_set h.facts c → body (header_of h c) bytes h.at ≡ got sheet q → start ≡ start_states sheet
        → a ≡ without_value (decided (faults action_faults bytes q sheet) sheet)) → a ≡ without_value (reading bytes)
    unfolding after_fields
    read_tested f g =
        let w = mapped_got start_states (body (header_of h constraint) bytes h.at) (f constraint) in
        g constraint w.0 read_space w.1 (sym w.2)
        ∙ sym (ap without_value (reading_body bytes header_is) ∙ ap (λ (x : Read Sheet). without_value (after_fields action_faults bytes x)) w.1)

-- Bytes that are too many are refused.
pub long_refused : (bytes : List ℕ) {k : ℕ} → refused k ≡ packed bytes → refused k ≡ without_value (reading bytes)
unfolding mapped
long_refused bytes e = sym (no_header bytes (sym (ap (mapped spaced) (packed_refused (header is_edition) bytes 0 e))))
