-- What supports the demands, for every model: there are the calls, on all numbers of the machine's sizes, and what they gave is of these sizes again. Assumes nothing.
use Prim.Native.Nat.{ℕ, ◌+◌, ◌*◌, ◌^◌, ◌<◌}
use native.Mathlib.Omega.{arith}
use native.Mathlib.Decide.{dec_lt}
use mathlib.Core.Bool.{◌&&◌}
use mathlib.Core.List.Memᴰ
use mathlib.Core.List.{List, [], ◌∷◌, Memᴰ}
use mathlib.Core.Path.{◌≡◌, refl, sym, subst}
use mathlib.Core.Logic.{⊎_elim, ∥∥₁_elim, ∥∥₁_map}
use mathlib.Core.HLevel.{⊥_prop}
use lib.ListN.{length}
use seplogic.Ra.Ura.{Ura}
use mir.Syntax.{w8}
use mir.Val.{bytes}
use prog.Model.{Model}
use types.Logic.{Logic}
use Rattle.machine.specs.Calls.{Place, writes, Argument, Fits, AllFit, Callable}
use Rattle.machine.proofs.Blocks.{AllSmall, placed, callable}
use Rattle.lists.specs.Lists.{AllUnder}
use Rattle.states.specs.declared.States.{States}
use Rattle.states.specs.Sets.{member, members, words, of_words}
use Rattle.states.proofs.SetLaws.{Fitting, fitting_set_of}
use Rattle.states.proofs.CountLaws.{members_most}
use Rattle.format.specs.Syntax.{Sheet}
use Rattle.format.specs.Format.{Answer, gives, refused, given_or, reading}
use Rattle.semantics.specs.Printing.{most_lines}
use Rattle.routine.specs.Memory.{head_at}
use Rattle.routine.specs.Tables.{sheet_start}
use Rattle.routine.proofs.FitLaws.{prepared_heads_fit, prepared_nodes_fit, prepared_sets_fit, prepared_heads_length, prepared_nodes_length, prepared_sets_length, start_fits}
use Rattle.progression.specs.declared.place.Place.{Place as Stop}
use Rattle.progression.specs.Machine.{effect, reply_states, kept_by, stepped, passed_over, passed_by, Inside}
use Rattle.runner.specs.declared.calls.Record.{Record}
use Rattle.runner.specs.Calls.{Form, own, lent}
use Rattle.recovery.specs.Numbers.{memory_after, start_words, lengths_of}
use Rattle.recovery.specs.Arguments.{Tables, tables_after, record_at, to_read, to_prepare, to_step, to_pass, to_settle, to_know, to_print, told_width, evaluations_width, memo_width, state_width, figures_width, to_feed, to_end, to_line}
use Rattle.release.specs.Framing.{most_begun}
use Rattle.claims.specs.Library.{Library, Gave, CanBeCalled, ToPrepare, AfterPrepare, ToStep, ToPass, AfterPass, ToSettle}
use Rattle.claims.specs.Linked.{Functions, verifying, checking, loading, telling, reporting, linked}
use Rattle.claims.proofs.CallLaws.{Laws}
use Rattle.claims.specs.Terms.{prepared_as, passed_as}
use Rattle.claims.specs.Support.{Numbers, Bytes, TablesFit, SetFits, VerifyFits, RecordFits}
use Rattle.claims.proofs.FunctionRuns.{prepare_fixed, step_fixed, pass_fixed, settle_within}

-- Bounds of every number of a list, by its members.
under_member : (m : ℕ) (xs : List ℕ) → AllUnder m xs → (n : ℕ) → Memᴰ n xs → n < m
unfolding AllUnder
under_member m [] h n k = absurd (Memᴰ.not-nil k)
under_member m (x ∷ xs) h n k = ⊎_elim (λ (e : n ≡ x). omega (arith, h.0)) (λ l. under_member m xs h.1 n l) (Memᴰ.cases_cons k)

members_under : (m : ℕ) (xs : List ℕ) → ((n : ℕ) → Memᴰ n xs → n < m) → AllUnder m xs
unfolding AllUnder
members_under m [] h = tt
members_under m (x ∷ xs) h = (h x (Memᴰ.head refl), members_under m xs (λ n k. h n (Memᴰ.tail k)))

-- Bytes of a slice have under 2^63 bytes.
short : {xs : List ℕ} → Bytes xs → length xs * bytes w8 < 2 ^ 63
short f = omega (arith, f.short)

-- The words of a set.
words_fit : (set : States) → Fitting set → SetFits (words set)
unfolding words AllUnder
words_fit set f = record { long = refl; small = (f.0, (f.1, (f.2, (f.3, tt)))) }

start_fit : (answer : Answer Sheet) (old : List ℕ) → SetFits old → SetFits (memory_after start_words answer old)
unfolding memory_after given_or start_words
start_fit (gives sheet) old f = words_fit (sheet_start sheet) (start_fits sheet)
start_fit (refused k) old f = f

kept_fits : (set reply : States) → Fitting (kept_by set reply)
unfolding kept_by
kept_fits set reply = fitting_set_of (λ t. member set t && member reply t)

step_fits : (heads sets : List ℕ) (set : States) (a r : ℕ) → Fitting (stepped heads sets set a r)
unfolding stepped
step_fits heads sets set a r = kept_fits (effect sets (head_at heads a) set) (reply_states sets (head_at heads a) r)

-- How often a reply is evaluated.
count_fits : (set : States) → Numbers 64 evaluations_width (length (members set) ∷ [])
unfolding AllUnder
count_fits set = record { long = refl; small = (omega (arith, members_most set), tt) }

-- Prepared tables.
pub tables_fit : (sheet : List ℕ) (t : Tables) → TablesFit t → TablesFit (tables_after (reading sheet) t)
tables_fit sheet t f = record {
  heads = record {
    long = prepared_heads_length sheet t.heads f.heads.long;
    small = members_under (2 ^ 16) _ (prepared_heads_fit sheet t.heads (under_member (2 ^ 16) t.heads f.heads.small));
  };
  nodes = record {
    long = prepared_nodes_length sheet t.nodes f.nodes.long;
    small = members_under (2 ^ 16) _ (prepared_nodes_fit sheet t.nodes (under_member (2 ^ 16) t.nodes f.nodes.small));
  };
  sets = record {
    long = prepared_sets_length sheet t.sets f.sets.long;
    small = members_under (2 ^ 64) _ (prepared_sets_fit sheet t.sets (under_member (2 ^ 64) t.sets f.sets.small));
  };
}

-- Places that aren't used.
abbrev nowhere : ℕ → Place
nowhere i = record { block = 0; at = 0 }

module _ {M : Type 1} {𝓤 : Ura M} (𝓛 : Logic 𝓤) (𝓜 : Model 𝓤 𝓛.H) (fs : Functions) (laws : Laws 𝓛 𝓜 fs) where
  open 𝓛 use {H}

  abbrev library : Library {1}
  library = linked 𝓤 H 𝓜 fs

  -- There is a call, with nothing beside it.
  some_call : (args : List Argument) → AllFit args → AllSmall args → ∥ ((p : ℕ → Place) × (others : List Argument) × Callable 𝓤 H 𝓜 (placed args p) others) ∥₁
  some_call args f h = ∥∥₁_map (callable 𝓛 𝓜 args f h) (λ c. (c.0, [], c.1))

  pub can_read : CanBeCalled library.read Bytes
  unfolding CanBeCalled AllFit Fits AllSmall
  can_read sheet f = some_call (to_read nowhere sheet) (short f, tt) (f.small, tt)

  pub can_verify : (form : Form) → CanBeCalled (library.verify form) VerifyFits
  unfolding CanBeCalled AllFit Fits AllSmall verifying
  can_verify own x f =
      some_call (verifying own nowhere x.sheet x.budget x.trace x.verdict x.tables x.memo)
      (short f.sheet, (f.budget, (short f.trace, (f.verdict.long, tt)))) (f.sheet.small, (f.trace.small, (f.verdict.small, tt)))
  can_verify lent x f =
      some_call (verifying lent nowhere x.sheet x.budget x.trace x.verdict x.tables x.memo) (
        short f.sheet,
        (f.budget, (short f.trace, (f.verdict.long, (f.tables.heads.long, (f.tables.nodes.long, (f.tables.sets.long, (f.memo.long, tt))))))),
      ) (
        f.sheet.small,
        (f.trace.small, (f.verdict.small, (f.tables.heads.small, (f.tables.nodes.small, (f.tables.sets.small, (f.memo.small, tt)))))),
      )

  pub can_check : (form : Form) → CanBeCalled (library.check form) (λ x. Bytes x.sheet × Bytes x.trace × TablesFit x.tables)
  unfolding CanBeCalled AllFit Fits AllSmall checking
  can_check own x f =
      some_call (checking own nowhere x.sheet x.trace x.tables) (short f.0, (short f.1, tt)) (f.0.small, (f.1.small, tt))
  can_check lent x f =
      some_call (checking lent nowhere x.sheet x.trace x.tables)
      (short f.0, (short f.1, (f.2.heads.long, (f.2.nodes.long, (f.2.sets.long, tt)))))
      (f.0.small, (f.1.small, (f.2.heads.small, (f.2.nodes.small, (f.2.sets.small, tt)))))

  pub can_print : CanBeCalled library.print (λ x. Bytes x.sheet × Numbers 8 most_lines x.out)
  unfolding CanBeCalled AllFit Fits AllSmall
  can_print x f = some_call (to_print nowhere x.sheet x.out) (short f.0, (f.1.long, tt)) (f.0.small, (f.1.small, tt))

  pub can_prepare : CanBeCalled library.prepare (λ x. Bytes x.sheet × TablesFit x.tables × SetFits x.start)
  unfolding CanBeCalled AllFit Fits AllSmall
  can_prepare x f =
      some_call (to_prepare nowhere x.sheet x.tables x.start)
      (short f.0, (f.1.heads.long, (f.1.nodes.long, (f.1.sets.long, (f.2.long, tt)))))
      (f.0.small, (f.1.heads.small, (f.1.nodes.small, (f.1.sets.small, (f.2.small, tt)))))

  pub can_step : CanBeCalled library.step (λ x. TablesFit x.tables × SetFits x.set × (x.action < 2 ^ 64) × (x.reply < 2 ^ 64))
  unfolding CanBeCalled AllFit Fits AllSmall
  can_step x f =
      some_call (to_step nowhere x.tables x.set x.action x.reply) (f.0.heads.long, (f.0.sets.long, (f.1.long, (f.2, (f.3, tt)))))
      (f.0.heads.small, (f.0.sets.small, (f.1.small, tt)))

  pub can_pass : CanBeCalled library.pass
      (λ x. TablesFit x.tables × SetFits x.set × (x.action < 2 ^ 64) × (x.reply < 2 ^ 64) × Numbers 64 evaluations_width x.evaluations)
  unfolding CanBeCalled AllFit Fits AllSmall
  can_pass x f =
      some_call (to_pass nowhere x.tables x.set x.action x.reply x.evaluations)
      (f.0.heads.long, (f.0.sets.long, (f.1.long, (f.2, (f.3, (f.4.long, tt))))))
      (f.0.heads.small, (f.0.sets.small, (f.1.small, (f.4.small, tt))))

  pub can_settle : CanBeCalled library.settle (λ x. TablesFit x.tables × SetFits x.set × (x.at < 2 ^ 64))
  unfolding CanBeCalled AllFit Fits AllSmall
  can_settle x f =
      some_call (to_settle nowhere x.tables x.set x.at) (f.0.nodes.long, (f.0.sets.long, (f.1.long, (f.2, tt))))
      (f.0.nodes.small, (f.0.sets.small, (f.1.small, tt)))

  pub can_know : CanBeCalled library.know (λ x. TablesFit x.tables × SetFits x.set × (x.formula < 2 ^ 64))
  unfolding CanBeCalled AllFit Fits AllSmall
  can_know x f =
      some_call (to_know nowhere x.tables x.set x.formula) (f.0.sets.long, (f.1.long, (f.2, tt))) (f.0.sets.small, (f.1.small, tt))

  -- What a call gave is of these sizes again.
  pub prepared_fit : (x : ToPrepare) (y : AfterPrepare) → Gave library.prepare x y → TablesFit x.tables → SetFits x.start → TablesFit y.tables × SetFits y.start
  unfolding prepared_as
  prepared_fit x y g t s =
      subst (λ (z : AfterPrepare). TablesFit z.tables × SetFits z.start) (sym (prepare_fixed 𝓛 𝓜 fs laws x y g))
      (tables_fit x.sheet x.tables t, start_fit (reading x.sheet) x.start s)

  pub stepped_fit : (x : ToStep) (set : List ℕ) → Gave library.step x set → SetFits set
  stepped_fit x set g =
      subst SetFits (sym (step_fixed 𝓛 𝓜 fs laws x set g))
      (words_fit (stepped x.tables.heads x.tables.sets (of_words x.set) x.action x.reply)
      (step_fits x.tables.heads x.tables.sets (of_words x.set) x.action x.reply))

  pub passed_fit : (x : ToPass) (y : AfterPass) → Gave library.pass x y → SetFits y.kept × Numbers 64 evaluations_width (y.evaluations ∷ [])
  unfolding passed_as passed_by passed_over
  passed_fit x y g =
      let set = of_words x.set in
      let reply = reply_states x.tables.sets (head_at x.tables.heads x.action) x.reply in
      subst (λ (z : AfterPass). SetFits z.kept × Numbers 64 evaluations_width (z.evaluations ∷ [])) (sym (pass_fixed 𝓛 𝓜 fs laws x y g))
      (words_fit (kept_by set reply) (kept_fits set reply), count_fits set)

  pub settled_fit : (x : ToSettle) (node a : ℕ) → Gave library.settle x (Stop.Act node a) → (node + 1 < 2 ^ 64) × (a < 2 ^ 64)
  unfolding Inside
  settled_fit x node a g =
      let inside = settle_within 𝓛 𝓜 fs laws x (Stop.Act node a) g in (
        elim (dec_lt (node + 1) (2 ^ 64)) [ yes l ↦ l | no n ↦ absurd (∥∥₁_elim inside ⊥_prop (λ i. omega (arith, i.0, n))) ],
        elim (dec_lt a (2 ^ 64)) [ yes l ↦ l | no n ↦ absurd (∥∥₁_elim inside ⊥_prop (λ i. omega (arith, i.1, n))) ],
      )

  -- The runner's functions.
  pub can_load : (form : Form) → CanBeCalled (library.load form) (λ x. Bytes x.sheet × RecordFits x.kept × TablesFit x.tables)
  unfolding CanBeCalled AllFit Fits AllSmall AllUnder loading lengths_of
  can_load own x f =
      some_call (loading own nowhere x.sheet x.kept x.tables) (short f.0, (f.1.sheet.long, (f.1.replies.long, (refl, tt))))
      (f.0.small, (f.1.sheet.small, (f.1.replies.small, ((f.1.len, (f.1.count, tt)), tt))))
  can_load lent x f =
      some_call (loading lent nowhere x.sheet x.kept x.tables)
      (short f.0, (f.1.sheet.long, (f.1.replies.long, (refl, (f.2.heads.long, (f.2.nodes.long, (f.2.sets.long, tt)))))))
      (f.0.small, (f.1.sheet.small, (f.1.replies.small, ((f.1.len, (f.1.count, tt)), (f.2.heads.small, (f.2.nodes.small, (f.2.sets.small, tt)))))))

  pub can_next : (form : Form) → CanBeCalled (library.next form) (λ x. RecordFits x.kept × Numbers 64 told_width x.told × TablesFit x.tables)
  unfolding CanBeCalled AllFit Fits AllSmall AllUnder telling lengths_of
  can_next own x f =
      some_call (telling own nowhere x.kept x.told x.tables) (f.0.sheet.long, (f.0.replies.long, (refl, (f.1.long, tt))))
      (f.0.sheet.small, (f.0.replies.small, ((f.0.len, (f.0.count, tt)), (f.1.small, tt))))
  can_next lent x f =
      some_call (telling lent nowhere x.kept x.told x.tables)
      (f.0.sheet.long, (f.0.replies.long, (refl, (f.1.long, (f.2.heads.long, (f.2.nodes.long, (f.2.sets.long, tt)))))))
      (f.0.sheet.small, (f.0.replies.small, ((f.0.len, (f.0.count, tt)), (f.1.small, (f.2.heads.small, (f.2.nodes.small, (f.2.sets.small, tt)))))))

  pub can_report : (form : Form) → CanBeCalled (library.report form) (λ x. RecordFits x.kept × (x.reply < 2 ^ 8) × TablesFit x.tables)
  unfolding CanBeCalled AllFit Fits AllSmall AllUnder reporting lengths_of
  can_report own x f =
      some_call (reporting own nowhere x.kept x.reply x.tables) (f.0.sheet.long, (f.0.replies.long, (refl, (f.1, tt))))
      (f.0.sheet.small, (f.0.replies.small, ((f.0.len, (f.0.count, tt)), tt)))
  can_report lent x f =
      some_call (reporting lent nowhere x.kept x.reply x.tables)
      (f.0.sheet.long, (f.0.replies.long, (refl, (f.1, (f.2.heads.long, (f.2.nodes.long, (f.2.sets.long, tt)))))))
      (f.0.sheet.small, (f.0.replies.small, ((f.0.len, (f.0.count, tt)), (f.2.heads.small, (f.2.nodes.small, (f.2.sets.small, tt))))))

  -- The functions of a stream's figures.
  pub can_feed : CanBeCalled library.feed
      (λ x. Bytes x.piece × Numbers 64 state_width x.numbers × Numbers 8 most_begun x.begun × TablesFit x.tables × Numbers 64 memo_width x.memo)
  unfolding CanBeCalled AllFit Fits AllSmall
  can_feed x f =
      some_call (to_feed nowhere x.piece x.numbers x.begun x.tables x.memo)
      (short f.0, (f.1.long, (f.2.long, (f.3.heads.long, (f.3.nodes.long, (f.3.sets.long, (f.4.long, tt)))))))
      (f.0.small, (f.1.small, (f.2.small, (f.3.heads.small, (f.3.nodes.small, (f.3.sets.small, (f.4.small, tt)))))))

  pub can_finish : CanBeCalled library.finish (λ x. Numbers 64 state_width x.numbers × Numbers 8 most_begun x.begun × Numbers 64 figures_width x.figures)
  unfolding CanBeCalled AllFit Fits AllSmall
  can_finish x f = some_call (to_end nowhere x.numbers x.begun x.figures) (f.0.long, (f.1.long, (f.2.long, tt))) (f.0.small, (f.1.small, (f.2.small, tt)))

  pub can_line : CanBeCalled library.line (λ x. Numbers 64 figures_width x.figures × Numbers 8 most_lines x.out)
  unfolding CanBeCalled AllFit Fits AllSmall
  can_line x f = some_call (to_line nowhere x.figures x.out) (f.0.long, (f.1.long, tt)) (f.0.small, (f.1.small, tt))

  -- A record lies somewhere.
  pub kept_somewhere : (r : Record) → RecordFits r → ∥ ((k : library.runner.Kept) × (library.runner.record_in k ≡ r)) ∥₁
  unfolding AllFit Fits AllSmall AllUnder lengths_of
  kept_somewhere r f =
      ∥∥₁_map
      (callable 𝓛 𝓜 (record_at writes writes (nowhere 0) (nowhere 1) (nowhere 2) r) (f.sheet.long, (f.replies.long, (refl, tt)))
      (f.sheet.small, (f.replies.small, ((f.len, (f.count, tt)), tt))))
      (λ c. (record { kept = r; place = c.0; others = []; lies = c.1 }, refl))
