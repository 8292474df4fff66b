-- The functions that C links, for every model: each call ends, and whatever it gave is what the definitions say. Assumes nothing.
use Prim.Native.Nat.{ℕ, ◌≤◌}
use native.Mathlib.Nat.{ℕ_set}
use mathlib.Core.Bool.{Bool}
use mathlib.Core.List.{List, [], ◌∷◌, is_set}
use mathlib.Core.Path.{◌≡◌, refl, sym, ap, subst, ◌∙◌}
use mathlib.Core.Logic.{∥∥₁_prop, ∥∥₁_elim, ∥∥₁_map}
use lib.ListN.{length, take}
use seplogic.Ra.Ura.{Ura}
use mir.Syntax.{w8, w64}
use mir.Val.{Val, vint, vunit}
use prog.Model.{Model}
use prog.Routine.{Routine}
use types.Logic.{Logic}
use base.Stored.{Coded-set, coded_bool}
use Rattle.machine.specs.Calls.{Place, Argument, Fits, AllFit, Owned, Callable}
use Rattle.machine.proofs.Passing.{Leaves}
use Rattle.machine.proofs.Loading as calls
use Rattle.lists.specs.Lists.{write}
use Rattle.states.specs.Sets.{words, of_words}
use Rattle.format.specs.Syntax.{Sheet}
use Rattle.format.specs.Format.{Answer, reading}
use Rattle.reader.specs.Answers.{number_for, without_value}
use Rattle.semantics.specs.Verdict.{admitted, verified}
use Rattle.semantics.specs.Checker.{checked}
use Rattle.semantics.specs.Printing.{printed}
use Rattle.routine.specs.Memory.{Sized}
use Rattle.printing.proofs.LineLaws.{lines_back}
use Rattle.progression.specs.declared.place.Place.{Place as Stop}
use Rattle.progression.specs.declared.reply.Passed.{Passed}
use Rattle.progression.specs.Machine.{stepped, passed_by, settled, known_by, Inside}
use Rattle.runner.specs.declared.calls.Record.{Record}
use Rattle.runner.specs.Records.{sheet_in, next_on, report_on}
use Rattle.runner.specs.Calls.{Form, own, lent}
use Rattle.recovery.specs.Numbers.{memory_after, start_words, verdict_numbers, checked_number, place_number, flag_number, told_numbers, lengths_of, DoneRead, ValueRead, CheckRead, FlagRead, PlaceRead}
use Rattle.recovery.proofs.ReadLaws.{done_read, done_one, value_read, value_one, verdict_one, told_one, check_read, check_one, flag_read, flag_one, place_read, place_one}
use Rattle.recovery.specs.Arguments.{Tables, tables_after, to_read, to_prepare, to_step, to_pass, to_settle, to_know, to_print}
use Rattle.claims.specs.Library.{Gave, EveryCallEnds}
use Rattle.claims.specs.Library.{ToVerify, AfterVerify, ToCheck, AfterCheck, ToPrint, AfterPrint, ToPrepare, AfterPrepare, ToStep, ToPass, AfterPass, ToSettle, ToKnow}
use Rattle.claims.specs.Library.{ToLoad, AfterLoad, ToNext, AfterNext, ToReport, AfterReport}
use Rattle.claims.specs.Linked.{Functions, verifier, verifying, checker, checking, loader, loading, teller, telling, reporter, reporting, SameIfOwn, compiled, linked}
use Rattle.claims.proofs.CallLaws.{Laws}
use Rattle.claims.specs.Terms.{tables_left, memo_left, verified_as, checked_as, printed_as, prepared_as, passed_as, loaded_as, told_as, reported_as}
use Rattle.claims.proofs.SetLaws.{unit_answer_set, bool_answer_set, verdict_answer_set, told_answer_set, place_set, record_set, tables_set}
use Rattle.claims.proofs.NumberLaws.{reading_numbered, checked_numbered, verified_numbered, next_numbered, report_numbered}

pub list_set : IsSet (List ℕ)
list_set = is_set ℕ_set

-- The memory that was lent to a pass, by its parts.
pass_parts : (p : ℕ → Place) (t : Tables) (action reply : ℕ) (kept kept' : List ℕ) (n n' : ℕ) → to_pass p t kept action reply (n ∷ []) ≡ to_pass p t kept' action reply (n' ∷ [])
    → (kept ≡ kept') × (n ≡ n')
pass_parts p t action reply kept kept' n n' e = (cc, cc)

module _ {M : Type 1} {𝓤 : Ura M} (𝓛 : Logic 𝓤) (𝓜 : Model 𝓤 𝓛.H) (fs : Functions) (laws : Laws 𝓛 𝓜 fs) where
  open 𝓛 use {H}

  abbrev library : Rattle.claims.specs.Library.Library {1}
  library = linked 𝓤 H 𝓜 fs

  -- Of any function: what its call leaves is what it gives.
  module _ {Takes Gives : Type 0} (function : Routine) (arguments : (ℕ → Place) → Takes → List Argument)
      (means : (ℕ → Place) → Takes → Gives → Val → List Argument → Type 0) (result : Takes → Val) (last : (ℕ → Place) → Takes → List Argument)
      (leaves : (p : ℕ → Place) (x : Takes) → Leaves 𝓛 𝓜 function (arguments p x) (result x) (last p x)) where
    abbrev pub Meant : Takes → Gives → Type 1
    Meant x y = (p : ℕ → Place) × ((others : List Argument) × Callable 𝓤 H 𝓜 (arguments p x) others) × means p x y (result x) (last p x)

    pub every_ends : ((p : ℕ → Place) (x : Takes) (others : List Argument) → Callable 𝓤 H 𝓜 (arguments p x) others → ∥ ((y : Gives) × means p x y (result x) (last p x)) ∥₁)
        → EveryCallEnds (compiled 𝓤 H 𝓜 function arguments means)
    unfolding EveryCallEnds
    every_ends says x call =
        ∥∥₁_elim (says call.0 x call.1 call.2) ∥∥₁_prop (λ y.
        ∥∥₁_map (calls.ended 𝓛 𝓜 function (arguments call.0 x) (result x) (last call.0 x) (leaves call.0 x) call.1 call.2) (λ e.
        (y.0, (result x, last call.0 x, e, y.1))))

    pub gave_meant : (x : Takes) (y : Gives) → Gave (compiled 𝓤 H 𝓜 function arguments means) x y → ∥ Meant x y ∥₁
    unfolding Gave
    gave_meant x y g =
        let p = g.0.0 in
        ∥∥₁_map (calls.fixed 𝓛 𝓜 function (arguments p x) (result x) (last p x) (leaves p x) g.0.1 g.0.2 g.1.0 g.1.1 g.1.2) (λ f.
        (p, (g.0.1, g.0.2), subst (λ (z : Val × List Argument). means p x y z.0 z.1) (λ i. (f.0 i, f.1 i)) g.1.3))

  -- Reading.
  abbrev read_result : List ℕ → Val
  read_result sheet = vint w8 (number_for (reading sheet))

  pub read_ends : EveryCallEnds library.read
  read_ends =
      every_ends fs.read to_read _ read_result to_read (laws.read_leaves) (λ p sheet others c. ∣ (without_value (reading sheet), (number_for (reading sheet), refl, refl, done_read (reading sheet) (reading_numbered sheet))) ∣₁)

  pub read_fixed : (sheet : List ℕ) (a : Answer (Unit {0})) → Gave library.read sheet a → a ≡ without_value (reading sheet)
  read_fixed sheet a g =
      ∥∥₁_elim (gave_meant fs.read to_read _ read_result to_read (laws.read_leaves) sheet a g) (unit_answer_set _ _) (λ m.
      let k : number_for (reading sheet) ≡ m.2.0 = let e = m.2.1 in cc in
      done_one m.2.0 a (without_value (reading sheet)) m.2.3 (subst (λ (n : ℕ). DoneRead n (without_value (reading sheet))) k (done_read (reading sheet) (reading_numbered sheet))))

  -- Verifying.
  module _ (form : Form) where
    abbrev verify_result : ToVerify → Val
    verify_result x = vint w8 (number_for (verified x.sheet x.budget x.trace).answer)

    abbrev verify_arguments : (ℕ → Place) → ToVerify → List Argument
    verify_arguments p x = verifying form p x.sheet x.budget x.trace x.verdict x.tables x.memo

    abbrev verify_last : (ℕ → Place) → ToVerify → List Argument
    verify_last p x =
        let y = verified_as form x in
        verifying form p x.sheet x.budget y.trace y.verdict y.tables y.memo

  verify_leaves : (form : Form) (p : ℕ → Place) (x : ToVerify) → Leaves 𝓛 𝓜 (verifier fs form) (verify_arguments form p x) (verify_result form x) (verify_last form p x)
  unfolding verifier verifying verified_as tables_left memo_left
  verify_leaves own p x = laws.verify_leaves p x.sheet x.budget x.trace x.verdict
  verify_leaves lent p x = laws.verify_in_leaves p x.sheet x.budget x.trace x.verdict x.tables x.memo

  tables_untouched : (form : Form) (answer : Answer Sheet) (t : Tables) → SameIfOwn form t (tables_left form answer t)
  unfolding SameIfOwn tables_left
  tables_untouched own answer t = refl
  tables_untouched lent answer t = tt

  memo_untouched : (form : Form) (answer : Answer Sheet) (memo : List ℕ) → SameIfOwn form memo (memo_left form answer memo)
  unfolding SameIfOwn memo_left
  memo_untouched own answer memo = refl
  memo_untouched lent answer memo = tt

  pub verify_ends : (form : Form) → EveryCallEnds (library.verify form)
  unfolding verified_as
  verify_ends form =
      every_ends (verifier fs form) (verify_arguments form) _ (verify_result form) (verify_last form) (verify_leaves form) (λ p x others c.
      let a = (verified x.sheet x.budget x.trace).answer in
      ∣ (
        verified_as form x,
        (
          number_for a,
          refl,
          refl,
          value_read verdict_numbers a x.verdict (verified_numbered x.sheet x.budget x.trace),
          tables_untouched form (admitted x.sheet x.trace) x.tables,
          memo_untouched form (admitted x.sheet x.trace) x.memo,
        ),
      ) ∣₁)

  -- The parts of what was given.
  abbrev VerifyParts : (y z : AfterVerify) → Type 0
  VerifyParts y z =
      (z.trace ≡ y.trace) × (z.verdict ≡ y.verdict) × (z.tables.heads ≡ y.tables.heads) × (z.tables.nodes ≡ y.tables.nodes) × (z.tables.sets ≡ y.tables.sets)
      × (z.memo ≡ y.memo)

  verify_parts : (form : Form) (p : ℕ → Place) (x : ToVerify) (y : AfterVerify)
      → verify_last form p x ≡ verifying form p x.sheet x.budget y.trace y.verdict y.tables y.memo
      → SameIfOwn form x.tables y.tables → SameIfOwn form x.memo y.memo → VerifyParts y (verified_as form x)
  unfolding verifying verified_as SameIfOwn tables_left memo_left
  verify_parts own p x y e t m =
      (cc, cc, ap (λ (z : Tables). z.heads) (sym t), ap (λ (z : Tables). z.nodes) (sym t), ap (λ (z : Tables). z.sets) (sym t), sym m)
  verify_parts lent p x y e t m = (cc, cc, cc, cc, cc, cc)

  module _ (form : Form) (x : ToVerify) (y : AfterVerify) (g : Gave (library.verify form) x y) where
    abbrev z : AfterVerify
    z = verified_as form x

    verify_meant : ∥ ((y.answer ≡ z.answer) × VerifyParts y z) ∥₁
    unfolding verified_as
    verify_meant =
        ∥∥₁_map (gave_meant (verifier fs form) (verify_arguments form) _ (verify_result form) (verify_last form) (verify_leaves form) x y g) (λ m.
        let parts = verify_parts form m.0 x y m.2.2 m.2.4 m.2.5 in
        let a = (verified x.sheet x.budget x.trace).answer in
        let k : number_for a ≡ m.2.0 = let e = m.2.1 in cc in
        let is : ValueRead verdict_numbers m.2.0 y.verdict a =
        subst (λ (z : ℕ × List ℕ). ValueRead verdict_numbers z.0 z.1 a) (λ i. (k i, parts.1 i)) (value_read verdict_numbers a x.verdict (verified_numbered x.sheet x.budget x.trace)) in
        (value_one verdict_numbers verdict_one m.2.0 y.verdict y.answer a m.2.3 is, parts))

    pub verify_fixed : y ≡ z
    verify_fixed =
        let answer = ∥∥₁_elim verify_meant (verdict_answer_set _ _) (λ m. m.0) in
        let trace = ∥∥₁_elim verify_meant (list_set _ _) (λ m. sym m.1.0) in
        let verdict = ∥∥₁_elim verify_meant (list_set _ _) (λ m. sym m.1.1) in
        let heads = ∥∥₁_elim verify_meant (list_set _ _) (λ m. sym m.1.2) in
        let nodes = ∥∥₁_elim verify_meant (list_set _ _) (λ m. sym m.1.3) in
        let sets = ∥∥₁_elim verify_meant (list_set _ _) (λ m. sym m.1.4) in
        let memo = ∥∥₁_elim verify_meant (list_set _ _) (λ m. sym m.1.5) in
        λ i. record { answer = answer i; trace = trace i; verdict = verdict i; tables = record { heads = heads i; nodes = nodes i; sets = sets i }; memo = memo i }

  -- Checking.
  module _ (form : Form) where
    abbrev check_result : ToCheck → Val
    check_result x = vint w8 (checked_number (checked x.sheet x.trace))

    abbrev check_arguments : (ℕ → Place) → ToCheck → List Argument
    check_arguments p x = checking form p x.sheet x.trace x.tables

    abbrev check_last : (ℕ → Place) → ToCheck → List Argument
    check_last p x = checking form p x.sheet x.trace (checked_as form x).tables

  check_leaves : (form : Form) (p : ℕ → Place) (x : ToCheck) → Leaves 𝓛 𝓜 (checker fs form) (check_arguments form p x) (check_result form x) (check_last form p x)
  unfolding checker checking checked_as tables_left
  check_leaves own p x = laws.check_leaves p x.sheet x.trace
  check_leaves lent p x = laws.check_in_leaves p x.sheet x.trace x.tables

  check_said : (sheet trace : List ℕ) → CheckRead (checked_number (checked sheet trace)) (checked sheet trace)
  check_said sheet trace = check_read (checked sheet trace) (checked_numbered sheet trace)

  pub check_ends : (form : Form) → EveryCallEnds (library.check form)
  unfolding checked_as
  check_ends form =
      every_ends (checker fs form) (check_arguments form) _ (check_result form) (check_last form) (check_leaves form) (λ p x others c.
      ∣ (
        checked_as form x,
        (checked_number (checked x.sheet x.trace), refl, refl, check_said x.sheet x.trace, tables_untouched form (reading x.sheet) x.tables),
      ) ∣₁)

  abbrev TableParts : (t u : Tables) → Type 0
  TableParts t u = (u.heads ≡ t.heads) × (u.nodes ≡ t.nodes) × (u.sets ≡ t.sets)

  check_parts : (form : Form) (p : ℕ → Place) (x : ToCheck) (y : AfterCheck) → check_last form p x ≡ checking form p x.sheet x.trace y.tables
      → SameIfOwn form x.tables y.tables → TableParts y.tables (checked_as form x).tables
  unfolding checking checked_as SameIfOwn tables_left
  check_parts own p x y e t = (ap (λ (z : Tables). z.heads) (sym t), ap (λ (z : Tables). z.nodes) (sym t), ap (λ (z : Tables). z.sets) (sym t))
  check_parts lent p x y e t = (cc, cc, cc)

  pub check_fixed : (form : Form) (x : ToCheck) (y : AfterCheck) → Gave (library.check form) x y → y ≡ checked_as form x
  unfolding checked_as
  check_fixed form x y g =
      let meant = gave_meant (checker fs form) (check_arguments form) _ (check_result form) (check_last form) (check_leaves form) x y g in
      let answer = ∥∥₁_elim meant (bool_answer_set _ _) (λ m.
      let k : checked_number (checked x.sheet x.trace) ≡ m.2.0 = let e = m.2.1 in cc in
      check_one m.2.0 y.answer (checked x.sheet x.trace) m.2.3 (subst (λ (n : ℕ). CheckRead n (checked x.sheet x.trace)) k (check_said x.sheet x.trace))) in
      let heads = ∥∥₁_elim meant (list_set _ _) (λ m. sym (check_parts form m.0 x y m.2.2 m.2.4).0) in
      let nodes = ∥∥₁_elim meant (list_set _ _) (λ m. sym (check_parts form m.0 x y m.2.2 m.2.4).1) in
      let sets = ∥∥₁_elim meant (list_set _ _) (λ m. sym (check_parts form m.0 x y m.2.2 m.2.4).2) in
      λ i. record { answer = answer i; tables = record { heads = heads i; nodes = nodes i; sets = sets i } }

  -- Printing.
  abbrev print_arguments : (ℕ → Place) → ToPrint → List Argument
  print_arguments p x = to_print p x.sheet x.out

  abbrev print_result : ToPrint → Val
  print_result x = vint w64 (length (printed x.sheet))

  abbrev print_last : (ℕ → Place) → ToPrint → List Argument
  print_last p x = to_print p x.sheet (write x.out 0 (printed x.sheet))

  print_leaves : (p : ℕ → Place) (x : ToPrint) → Leaves 𝓛 𝓜 fs.print (print_arguments p x) (print_result x) (print_last p x)
  print_leaves p x = laws.print_leaves p x.sheet x.out

  -- The lines have room, so that they are read back.
  print_said : (p : ℕ → Place) (x : ToPrint) (others : List Argument) → Callable 𝓤 H 𝓜 (print_arguments p x) others → ∥ (take (length (printed x.sheet)) (write x.out 0 (printed x.sheet)) ≡ printed x.sheet) ∥₁
  unfolding AllFit Fits
  print_said p x others c =
      ∥∥₁_map (laws.print_within p x.sheet x.out c.fit c.memory (Owned 𝓤 H 𝓜 others) c.owned) (λ l.
      lines_back x.out (printed x.sheet) (subst (λ (n : ℕ). length (printed x.sheet) ≤ n) (sym c.fit.1.0) l))

  pub print_ends : EveryCallEnds library.print
  unfolding printed_as
  print_ends =
      every_ends fs.print print_arguments _ print_result print_last print_leaves (λ p x others c.
      ∥∥₁_map (print_said p x others c) (λ e. (printed_as x, (length (printed x.sheet), refl, refl, refl, sym e))))

  pub print_fixed : (x : ToPrint) (y : AfterPrint) → Gave library.print x y → y ≡ printed_as x
  unfolding printed_as
  print_fixed x y g =
      let meant = gave_meant fs.print print_arguments _ print_result print_last print_leaves x y g in
      let out : y.out ≡ write x.out 0 (printed x.sheet) = ∥∥₁_elim meant (list_set _ _) (λ m. let e = m.2.2 in cc) in
      let lines : y.lines ≡ printed x.sheet = ∥∥₁_elim meant (list_set _ _) (λ m.
      ∥∥₁_elim (print_said m.0 x m.1.0 m.1.1) (list_set _ _) (λ said.
      let k : length (printed x.sheet) ≡ m.2.0 = let e = m.2.1 in cc in
      m.2.4 ∙ (λ i. take (sym k i) (out i)) ∙ said)) in
      λ i. record { lines = lines i; out = out i }

  -- Preparing.
  abbrev prepare_arguments : (ℕ → Place) → ToPrepare → List Argument
  prepare_arguments p x = to_prepare p x.sheet x.tables x.start

  abbrev prepare_result : ToPrepare → Val
  prepare_result x = vint w8 (number_for (reading x.sheet))

  abbrev prepare_last : (ℕ → Place) → ToPrepare → List Argument
  prepare_last p x = to_prepare p x.sheet (tables_after (reading x.sheet) x.tables) (memory_after start_words (reading x.sheet) x.start)

  prepare_leaves : (p : ℕ → Place) (x : ToPrepare) → Leaves 𝓛 𝓜 fs.prepare (prepare_arguments p x) (prepare_result x) (prepare_last p x)
  prepare_leaves p x = laws.prepare_leaves p x.sheet x.tables x.start

  pub prepare_ends : EveryCallEnds library.prepare
  unfolding prepared_as
  prepare_ends =
      every_ends fs.prepare prepare_arguments _ prepare_result prepare_last prepare_leaves (λ p x others c.
      ∣ (prepared_as x, (number_for (reading x.sheet), refl, refl, done_read (reading x.sheet) (reading_numbered x.sheet))) ∣₁)

  module _ (x : ToPrepare) (y : AfterPrepare) (g : Gave library.prepare x y) where
    pub prepare_fixed : y ≡ prepared_as x
    unfolding prepared_as
    prepare_fixed =
        let meant = gave_meant fs.prepare prepare_arguments _ prepare_result prepare_last prepare_leaves x y g in
        let answer : y.answer ≡ without_value (reading x.sheet) = ∥∥₁_elim meant (unit_answer_set _ _) (λ m.
        let k : number_for (reading x.sheet) ≡ m.2.0 = let e = m.2.1 in cc in
        done_one m.2.0 y.answer (without_value (reading x.sheet)) m.2.3 (subst (λ (n : ℕ). DoneRead n (without_value (reading x.sheet))) k (done_read (reading x.sheet) (reading_numbered x.sheet)))) in
        let t = tables_after (reading x.sheet) x.tables in
        let heads : y.tables.heads ≡ t.heads = ∥∥₁_elim meant (list_set _ _) (λ m. let e = m.2.2 in cc) in
        let nodes : y.tables.nodes ≡ t.nodes = ∥∥₁_elim meant (list_set _ _) (λ m. let e = m.2.2 in cc) in
        let sets : y.tables.sets ≡ t.sets = ∥∥₁_elim meant (list_set _ _) (λ m. let e = m.2.2 in cc) in
        let start : y.start ≡ memory_after start_words (reading x.sheet) x.start = ∥∥₁_elim meant (list_set _ _) (λ m. let e = m.2.2 in cc) in
        λ i. record { answer = answer i; tables = record { heads = heads i; nodes = nodes i; sets = sets i }; start = start i }

    -- The tables were of the lengths that their types fix.
    pub prepare_sized : Sized x.tables.heads x.tables.nodes x.tables.sets
    unfolding AllFit Fits
    prepare_sized =
        let meant = gave_meant fs.prepare prepare_arguments _ prepare_result prepare_last prepare_leaves x y g in (
          ∥∥₁_elim meant (ℕ_set _ _) (λ m. m.1.1.fit.1.0),
          ∥∥₁_elim meant (ℕ_set _ _) (λ m. m.1.1.fit.1.1.0),
          ∥∥₁_elim meant (ℕ_set _ _) (λ m. m.1.1.fit.1.1.1.0),
        )

  -- Stepping.
  abbrev step_arguments : (ℕ → Place) → ToStep → List Argument
  step_arguments p x = to_step p x.tables x.set x.action x.reply

  abbrev step_last : (ℕ → Place) → ToStep → List Argument
  step_last p x = to_step p x.tables (words (stepped x.tables.heads x.tables.sets (of_words x.set) x.action x.reply)) x.action x.reply

  step_leaves : (p : ℕ → Place) (x : ToStep) → Leaves 𝓛 𝓜 fs.step (step_arguments p x) vunit (step_last p x)
  step_leaves p x = laws.step_leaves p x.tables x.set x.action x.reply

  pub step_ends : EveryCallEnds library.step
  step_ends = every_ends fs.step step_arguments _ (λ x. vunit) step_last step_leaves (λ p x others c. ∣ (_, (refl, refl)) ∣₁)

  pub step_fixed : (x : ToStep) (set : List ℕ) → Gave library.step x set → set ≡ words (stepped x.tables.heads x.tables.sets (of_words x.set) x.action x.reply)
  step_fixed x set g =
      ∥∥₁_elim (gave_meant fs.step step_arguments _ (λ x. vunit) step_last step_leaves x set g) (list_set _ _) (λ m. let e = m.2.1 in cc)

  -- The pass.
  abbrev passed : ToPass → Passed
  passed x = passed_by x.tables.heads x.tables.sets (of_words x.set) x.action x.reply

  abbrev pass_arguments : (ℕ → Place) → ToPass → List Argument
  pass_arguments p x = to_pass p x.tables x.set x.action x.reply x.evaluations

  abbrev pass_result : ToPass → Val
  pass_result x = vint w8 (flag_number (passed x).possible)

  abbrev pass_last : (ℕ → Place) → ToPass → List Argument
  pass_last p x = to_pass p x.tables (words (passed x).kept) x.action x.reply ((passed x).evaluations ∷ [])

  pass_leaves : (p : ℕ → Place) (x : ToPass) → Leaves 𝓛 𝓜 fs.pass (pass_arguments p x) (pass_result x) (pass_last p x)
  pass_leaves p x = laws.pass_leaves p x.tables x.set x.action x.reply x.evaluations

  pub pass_ends : EveryCallEnds library.pass
  unfolding passed_as
  pass_ends =
      every_ends fs.pass pass_arguments _ pass_result pass_last pass_leaves (λ p x others c.
      ∣ (passed_as x, (flag_number (passed x).possible, refl, refl, flag_read (passed x).possible)) ∣₁)

  module _ (x : ToPass) (y : AfterPass) (g : Gave library.pass x y) where
    pass_meant : ∥ ((y.possible ≡ (passed x).possible) × (y.kept ≡ words (passed x).kept) × (y.evaluations ≡ (passed x).evaluations)) ∥₁
    pass_meant =
        ∥∥₁_map (gave_meant fs.pass pass_arguments _ pass_result pass_last pass_leaves x y g) (λ m.
        let parts = pass_parts m.0 x.tables x.action x.reply _ _ _ _ (sym m.2.2) in
        let k : flag_number (passed x).possible ≡ m.2.0 = let e = m.2.1 in cc in
        (flag_one m.2.0 y.possible (passed x).possible m.2.3 (subst (λ (n : ℕ). FlagRead n (passed x).possible) k (flag_read (passed x).possible)), parts.0, parts.1))

    pub pass_fixed : y ≡ passed_as x
    unfolding passed_as
    pass_fixed =
        let possible = ∥∥₁_elim pass_meant (Coded-set coded_bool _ _) (λ m. m.0) in
        let kept = ∥∥₁_elim pass_meant (list_set _ _) (λ m. m.1) in
        let evaluations = ∥∥₁_elim pass_meant (ℕ_set _ _) (λ m. m.2) in
        λ i. record { possible = possible i; kept = kept i; evaluations = evaluations i }

  -- Settling.
  abbrev settle_arguments : (ℕ → Place) → ToSettle → List Argument
  settle_arguments p x = to_settle p x.tables x.set x.at

  abbrev stop : ToSettle → Stop
  stop x = settled x.tables.nodes x.tables.sets (of_words x.set) x.at

  settle_leaves : (p : ℕ → Place) (x : ToSettle) → Leaves 𝓛 𝓜 fs.settle (settle_arguments p x) (vint w64 (place_number (stop x))) (settle_arguments p x)
  settle_leaves p x = laws.settle_leaves p x.tables x.set x.at

  settle_inside : (p : ℕ → Place) (x : ToSettle) (others : List Argument) → Callable 𝓤 H 𝓜 (settle_arguments p x) others → ∥ Inside (stop x) ∥₁
  settle_inside p x others c = laws.settle_inside p x.tables x.set x.at c.fit c.memory (Owned 𝓤 H 𝓜 others) c.owned

  pub settle_ends : EveryCallEnds library.settle
  settle_ends =
      every_ends fs.settle settle_arguments _ (λ x. vint w64 (place_number (stop x))) settle_arguments settle_leaves (λ p x others c.
      ∥∥₁_map (settle_inside p x others c) (λ inside. (stop x, (place_number (stop x), refl, refl, place_read (stop x) inside))))

  module _ (x : ToSettle) (y : Stop) (g : Gave library.settle x y) where
    settle_meant : ∥ ((y ≡ stop x) × Inside (stop x)) ∥₁
    settle_meant =
        ∥∥₁_elim (gave_meant fs.settle settle_arguments _ (λ x. vint w64 (place_number (stop x))) settle_arguments settle_leaves x y g) ∥∥₁_prop (λ m.
        ∥∥₁_map (settle_inside m.0 x m.1.0 m.1.1) (λ inside.
        let k : place_number (stop x) ≡ m.2.0 = let e = m.2.1 in cc in
        (place_one m.2.0 y (stop x) m.2.3 (subst (λ (n : ℕ). PlaceRead n (stop x)) k (place_read (stop x) inside)), inside)))

    pub settle_fixed : y ≡ stop x
    settle_fixed = ∥∥₁_elim settle_meant (place_set _ _) (λ m. m.0)

    pub settle_within : ∥ Inside y ∥₁
    settle_within = ∥∥₁_map settle_meant (λ m. subst Inside (sym m.0) m.1)

  -- Knowing.
  abbrev know_arguments : (ℕ → Place) → ToKnow → List Argument
  know_arguments p x = to_know p x.tables x.set x.formula

  abbrev know_result : ToKnow → Val
  know_result x = vint w8 (flag_number (known_by x.tables.sets (of_words x.set) x.formula))

  know_leaves : (p : ℕ → Place) (x : ToKnow) → Leaves 𝓛 𝓜 fs.known (know_arguments p x) (know_result x) (know_arguments p x)
  know_leaves p x = laws.known_leaves p x.tables x.set x.formula

  pub know_ends : EveryCallEnds library.know
  know_ends = every_ends fs.known know_arguments _ know_result know_arguments know_leaves (λ p x others c.
      let told = known_by x.tables.sets (of_words x.set) x.formula in ∣ (told, (flag_number told, refl, refl, flag_read told)) ∣₁)

  pub know_fixed : (x : ToKnow) (b : Bool) → Gave library.know x b → b ≡ known_by x.tables.sets (of_words x.set) x.formula
  know_fixed x b g =
      ∥∥₁_elim (gave_meant fs.known know_arguments _ know_result know_arguments know_leaves x b g) (Coded-set coded_bool _ _) (λ m.
      let told = known_by x.tables.sets (of_words x.set) x.formula in
      let k : flag_number told ≡ m.2.0 = let e = m.2.1 in cc in
      flag_one m.2.0 b told m.2.3 (subst (λ (n : ℕ). FlagRead n told) k (flag_read told)))

  -- Loading.
  module _ (form : Form) where
    abbrev load_result : ToLoad → Val
    load_result x = vint w8 (number_for (reading x.sheet))

    abbrev load_arguments : (ℕ → Place) → ToLoad → List Argument
    load_arguments p x = loading form p x.sheet x.kept x.tables

    abbrev load_last : (ℕ → Place) → ToLoad → List Argument
    load_last p x = loading form p x.sheet (loaded_as form x).kept (loaded_as form x).tables

  load_leaves : (form : Form) (p : ℕ → Place) (x : ToLoad) → Leaves 𝓛 𝓜 (loader fs form) (load_arguments form p x) (load_result form x) (load_last form p x)
  unfolding loader loading loaded_as tables_left
  load_leaves own p x = laws.load_leaves p x.sheet x.kept
  load_leaves lent p x = laws.load_in_leaves p x.sheet x.kept x.tables

  pub load_ends : (form : Form) → EveryCallEnds (library.load form)
  unfolding loaded_as
  load_ends form =
      every_ends (loader fs form) (load_arguments form) _ (load_result form) (load_last form) (load_leaves form) (λ p x others c.
      ∣ (
        loaded_as form x,
        (number_for (reading x.sheet), refl, refl, done_read (reading x.sheet) (reading_numbered x.sheet), tables_untouched form (reading x.sheet) x.tables),
      ) ∣₁)

  -- The parts of a record and of tables.
  abbrev RecordParts : (r q : Record) → Type 0
  RecordParts r q = (q.sheet ≡ r.sheet) × (q.len ≡ r.len) × (q.replies ≡ r.replies) × (q.count ≡ r.count)

  record_is : (r q : Record) → RecordParts r q → r ≡ q
  record_is r q e = λ i. record { sheet = sym e.0 i; len = sym e.1 i; replies = sym e.2 i; count = sym e.3 i }

  tables_are : (t u : Tables) → TableParts t u → t ≡ u
  tables_are t u e = λ i. record { heads = sym e.0 i; nodes = sym e.1 i; sets = sym e.2 i }

  load_parts : (form : Form) (p : ℕ → Place) (x : ToLoad) (y : AfterLoad) → load_last form p x ≡ loading form p x.sheet y.kept y.tables → SameIfOwn form x.tables y.tables
      → RecordParts y.kept (loaded_as form x).kept × TableParts y.tables (loaded_as form x).tables
  unfolding loading loaded_as SameIfOwn tables_left lengths_of
  load_parts own p x y e t = ((cc, cc, cc, cc), (ap (λ (z : Tables). z.heads) (sym t), ap (λ (z : Tables). z.nodes) (sym t), ap (λ (z : Tables). z.sets) (sym t)))
  load_parts lent p x y e t = ((cc, cc, cc, cc), (cc, cc, cc))

  pub load_fixed : (form : Form) (x : ToLoad) (y : AfterLoad) → Gave (library.load form) x y → y ≡ loaded_as form x
  unfolding loaded_as
  load_fixed form x y g =
      let a = without_value (reading x.sheet) in
      let meant = gave_meant (loader fs form) (load_arguments form) _ (load_result form) (load_last form) (load_leaves form) x y g in
      let answer : y.answer ≡ a = ∥∥₁_elim meant (unit_answer_set _ _) (λ m.
      let k : number_for (reading x.sheet) ≡ m.2.0 = let e = m.2.1 in cc in
      done_one m.2.0 y.answer a m.2.3 (subst (λ (n : ℕ). DoneRead n a) k (done_read (reading x.sheet) (reading_numbered x.sheet)))) in
      let kept = ∥∥₁_elim meant (record_set _ _) (λ m. record_is y.kept (loaded_as form x).kept (load_parts form m.0 x y m.2.2 m.2.4).0) in
      let tables = ∥∥₁_elim meant (tables_set _ _) (λ m. tables_are y.tables (loaded_as form x).tables (load_parts form m.0 x y m.2.2 m.2.4).1) in
      λ i. record { answer = answer i; kept = kept i; tables = tables i }

  -- "Next".
  module _ (form : Form) where
    abbrev next_result : ToNext → Val
    next_result x = vint w8 (number_for (next_on x.kept))

    abbrev next_arguments : (ℕ → Place) → ToNext → List Argument
    next_arguments p x = telling form p x.kept x.told x.tables

    abbrev next_last : (ℕ → Place) → ToNext → List Argument
    next_last p x = telling form p x.kept (told_as form x).told (told_as form x).tables

  next_leaves : (form : Form) (p : ℕ → Place) (x : ToNext) → Leaves 𝓛 𝓜 (teller fs form) (next_arguments form p x) (next_result form x) (next_last form p x)
  unfolding teller telling told_as tables_left
  next_leaves own p x = laws.next_leaves p x.kept x.told
  next_leaves lent p x = laws.next_in_leaves p x.kept x.told x.tables

  pub next_ends : (form : Form) → EveryCallEnds (library.next form)
  unfolding told_as
  next_ends form =
      every_ends (teller fs form) (next_arguments form) _ (next_result form) (next_last form) (next_leaves form) (λ p x others c.
      ∣ (
        told_as form x,
        (number_for (next_on x.kept), refl, refl, value_read told_numbers (next_on x.kept) x.told (next_numbered x.kept), tables_untouched form (sheet_in x.kept) x.tables),
      ) ∣₁)

  next_parts : (form : Form) (p : ℕ → Place) (x : ToNext) (y : AfterNext) → next_last form p x ≡ telling form p y.kept y.told y.tables → SameIfOwn form x.tables y.tables
      → RecordParts y.kept x.kept × TableParts y.tables (told_as form x).tables × ((told_as form x).told ≡ y.told)
  unfolding telling told_as SameIfOwn tables_left lengths_of
  next_parts own p x y e t = ((cc, cc, cc, cc), (ap (λ (z : Tables). z.heads) (sym t), ap (λ (z : Tables). z.nodes) (sym t), ap (λ (z : Tables). z.sets) (sym t)), cc)
  next_parts lent p x y e t = ((cc, cc, cc, cc), (cc, cc, cc), cc)

  pub next_fixed : (form : Form) (x : ToNext) (y : AfterNext) → Gave (library.next form) x y → y ≡ told_as form x
  unfolding told_as
  next_fixed form x y g =
      let a = next_on x.kept in
      let meant = gave_meant (teller fs form) (next_arguments form) _ (next_result form) (next_last form) (next_leaves form) x y g in
      let answer : y.answer ≡ a = ∥∥₁_elim meant (told_answer_set _ _) (λ m.
      let k : number_for a ≡ m.2.0 = let e = m.2.1 in cc in
      let told = (next_parts form m.0 x y m.2.2 m.2.4).2 in
      value_one told_numbers told_one m.2.0 y.told y.answer a m.2.3
      (subst (λ (z : ℕ × List ℕ). ValueRead told_numbers z.0 z.1 a) (λ i. (k i, told i)) (value_read told_numbers a x.told (next_numbered x.kept)))) in
      let kept = ∥∥₁_elim meant (record_set _ _) (λ m. record_is y.kept x.kept (next_parts form m.0 x y m.2.2 m.2.4).0) in
      let tables = ∥∥₁_elim meant (tables_set _ _) (λ m. tables_are y.tables (told_as form x).tables (next_parts form m.0 x y m.2.2 m.2.4).1) in
      let told = ∥∥₁_elim meant (list_set _ _) (λ m. sym (next_parts form m.0 x y m.2.2 m.2.4).2) in
      λ i. record { answer = answer i; kept = kept i; told = told i; tables = tables i }

  -- "Report".
  module _ (form : Form) where
    abbrev report_result : ToReport → Val
    report_result x = vint w8 (number_for (report_on x.kept x.reply))

    abbrev report_arguments : (ℕ → Place) → ToReport → List Argument
    report_arguments p x = reporting form p x.kept x.reply x.tables

    abbrev report_last : (ℕ → Place) → ToReport → List Argument
    report_last p x = reporting form p (reported_as form x).kept x.reply (reported_as form x).tables

  report_leaves : (form : Form) (p : ℕ → Place) (x : ToReport) → Leaves 𝓛 𝓜 (reporter fs form) (report_arguments form p x) (report_result form x) (report_last form p x)
  unfolding reporter reporting reported_as tables_left
  report_leaves own p x = laws.report_leaves p x.kept x.reply
  report_leaves lent p x = laws.report_in_leaves p x.kept x.reply x.tables

  pub report_ends : (form : Form) → EveryCallEnds (library.report form)
  unfolding reported_as
  report_ends form =
      every_ends (reporter fs form) (report_arguments form) _ (report_result form) (report_last form) (report_leaves form) (λ p x others c.
      let a = report_on x.kept x.reply in
      ∣ (reported_as form x, (number_for a, refl, refl, done_read a (report_numbered x.kept x.reply), tables_untouched form (sheet_in x.kept) x.tables)) ∣₁)

  report_parts : (form : Form) (p : ℕ → Place) (x : ToReport) (y : AfterReport) → report_last form p x ≡ reporting form p y.kept x.reply y.tables
      → SameIfOwn form x.tables y.tables → RecordParts y.kept (reported_as form x).kept × TableParts y.tables (reported_as form x).tables
  unfolding reporting reported_as SameIfOwn tables_left lengths_of
  report_parts own p x y e t = ((cc, cc, cc, cc), (ap (λ (z : Tables). z.heads) (sym t), ap (λ (z : Tables). z.nodes) (sym t), ap (λ (z : Tables). z.sets) (sym t)))
  report_parts lent p x y e t = ((cc, cc, cc, cc), (cc, cc, cc))

  pub report_fixed : (form : Form) (x : ToReport) (y : AfterReport) → Gave (library.report form) x y → y ≡ reported_as form x
  unfolding reported_as
  report_fixed form x y g =
      let a = report_on x.kept x.reply in
      let meant = gave_meant (reporter fs form) (report_arguments form) _ (report_result form) (report_last form) (report_leaves form) x y g in
      let answer : y.answer ≡ without_value a = ∥∥₁_elim meant (unit_answer_set _ _) (λ m.
      let k : number_for a ≡ m.2.0 = let e = m.2.1 in cc in
      done_one m.2.0 y.answer (without_value a) m.2.3 (subst (λ (n : ℕ). DoneRead n (without_value a)) k (done_read a (report_numbered x.kept x.reply)))) in
      let kept = ∥∥₁_elim meant (record_set _ _) (λ m. record_is y.kept (reported_as form x).kept (report_parts form m.0 x y m.2.2 m.2.4).0) in
      let tables = ∥∥₁_elim meant (tables_set _ _) (λ m. tables_are y.tables (reported_as form x).tables (report_parts form m.0 x y m.2.2 m.2.4).1) in
      λ i. record { answer = answer i; kept = kept i; tables = tables i }
