-- The theorem: the demands hold of the library's functions, in every model of the machine in which functions run and in the one that the toolchain builds. Assumes nothing.
use mathlib.Core.List.{[]}
use mathlib.Core.Path.{refl}
use seplogic.Ra.Ura.{Ura}
use prog.Model.{Model}
use types.Logic.{Logic}
use prog.Linked.{in_world}
use prog.Wired.{node}
use prog.LinkedThreads.{has-wired_t, tie_t-follows, tie_t-threads}
use contract.Running.{within}
use contract.BorrowModel.{logic₀}
use contract.Closed.{model⁺, real⁺}
use ghost.Model as closed
use Rattle.runner.proofs.ListLaws.{lists_run, listed_answers}
use Rattle.claims.specs.Library.{Library}
use Rattle.claims.specs.Linked.{Functions, linked}
use Rattle.claims.specs.Program.{functions_in, library_code, HasLibrary, crates, program}
use Rattle.claims.specs.Demand1.{Demand1}
use Rattle.claims.specs.Support.{Support}
use Rattle.claims.specs.Theorem.{Demands, Theorem, EveryProgram, ClosedTheorem}
use Rattle.claims.proofs.Programs.{library_there}
use Rattle.claims.proofs.CallLaws as calls
use Rattle.claims.proofs.CallLaws.{Laws}
use Rattle.claims.proofs.Contracts.{Contracts}
use Rattle.claims.proofs.FunctionRuns as functions
use Rattle.claims.proofs.StreamRuns as streams
use Rattle.claims.proofs.StreamSupport as fed
use Rattle.claims.proofs.RunnerRuns as runs
use Rattle.claims.proofs.Demand1Laws as laws
use Rattle.claims.proofs.SupportLaws as supports
use Rattle.claims.proofs.Demand2Laws.{demand2}
use Rattle.claims.proofs.Demand3Laws.{demand3}
use Rattle.claims.proofs.ConstraintLaws.{constraint}
use Rattle.claims.proofs.ReleaseLaws.{release}
use Rattle.claims.proofs.PassLaws.{pass}

module _ {M : Type 1} {𝓤 : Ura M} (𝓛 : Logic 𝓤) (𝓜 : Model 𝓤 𝓛.H) (fs : Functions) (leaves : Laws 𝓛 𝓜 fs) where
  open 𝓛 use {H}

  abbrev library : Library {1}
  library = linked 𝓤 H 𝓜 fs

  contracts : Contracts library
  contracts = record {
    read_contract = functions.read_fixed 𝓛 𝓜 fs leaves;
    verify_contract = functions.verify_fixed 𝓛 𝓜 fs leaves;
    check_contract = functions.check_fixed 𝓛 𝓜 fs leaves;
    prepare_contract = functions.prepare_fixed 𝓛 𝓜 fs leaves;
    prepare_sized = functions.prepare_sized 𝓛 𝓜 fs leaves;
    step_contract = functions.step_fixed 𝓛 𝓜 fs leaves;
    pass_contract = functions.pass_fixed 𝓛 𝓜 fs leaves;
    settle_contract = functions.settle_fixed 𝓛 𝓜 fs leaves;
    know_contract = functions.know_fixed 𝓛 𝓜 fs leaves;
    runner_contracts = runs.runner_contracts 𝓛 𝓜 fs leaves;
    load_contract = functions.load_fixed 𝓛 𝓜 fs leaves;
    next_contract = functions.next_fixed 𝓛 𝓜 fs leaves;
    report_contract = functions.report_fixed 𝓛 𝓜 fs leaves;
    feed_contract = streams.feed_fixed 𝓛 𝓜 fs leaves;
    finish_contract = streams.finish_fixed 𝓛 𝓜 fs leaves;
    line_contract = streams.line_fixed 𝓛 𝓜 fs leaves;
    going = runs.going 𝓛 𝓜 fs leaves;
  }

  demand1 : Demand1 library
  demand1 = record {
    memory_holds = laws.memory_holds library contracts;
    next_keeps = laws.next_keeps library contracts;
    report_keeps = laws.report_keeps library contracts;
    read_ends = functions.read_ends 𝓛 𝓜 fs leaves;
    verify_ends = functions.verify_ends 𝓛 𝓜 fs leaves;
    check_ends = functions.check_ends 𝓛 𝓜 fs leaves;
    print_ends = functions.print_ends 𝓛 𝓜 fs leaves;
    prepare_ends = functions.prepare_ends 𝓛 𝓜 fs leaves;
    step_ends = functions.step_ends 𝓛 𝓜 fs leaves;
    pass_ends = functions.pass_ends 𝓛 𝓜 fs leaves;
    settle_ends = functions.settle_ends 𝓛 𝓜 fs leaves;
    know_ends = functions.know_ends 𝓛 𝓜 fs leaves;
    load_ends = functions.load_ends 𝓛 𝓜 fs leaves;
    next_ends = functions.next_ends 𝓛 𝓜 fs leaves;
    report_ends = functions.report_ends 𝓛 𝓜 fs leaves;
    feed_ends = streams.feed_ends 𝓛 𝓜 fs leaves;
    finish_ends = streams.finish_ends 𝓛 𝓜 fs leaves;
    line_ends = streams.line_ends 𝓛 𝓜 fs leaves;
    read_fixed = functions.read_fixed 𝓛 𝓜 fs leaves;
    verify_fixed = functions.verify_fixed 𝓛 𝓜 fs leaves;
    check_fixed = functions.check_fixed 𝓛 𝓜 fs leaves;
    print_fixed = functions.print_fixed 𝓛 𝓜 fs leaves;
    prepare_fixed = functions.prepare_fixed 𝓛 𝓜 fs leaves;
    step_fixed = functions.step_fixed 𝓛 𝓜 fs leaves;
    pass_fixed = functions.pass_fixed 𝓛 𝓜 fs leaves;
    settle_fixed = functions.settle_fixed 𝓛 𝓜 fs leaves;
    know_fixed = functions.know_fixed 𝓛 𝓜 fs leaves;
    load_fixed = functions.load_fixed 𝓛 𝓜 fs leaves;
    next_fixed = functions.next_fixed 𝓛 𝓜 fs leaves;
    report_fixed = functions.report_fixed 𝓛 𝓜 fs leaves;
    feed_fixed = streams.feed_fixed 𝓛 𝓜 fs leaves;
    finish_fixed = streams.finish_fixed 𝓛 𝓜 fs leaves;
    line_fixed = streams.line_fixed 𝓛 𝓜 fs leaves;
    verify_refused = laws.verify_refused library contracts;
    check_refused = laws.check_refused library contracts;
    prepare_refused = laws.prepare_refused library contracts;
    load_refused = laws.load_refused library contracts;
    next_refused = laws.next_refused library contracts;
    short_exactly = laws.short_exactly library contracts;
  }

  support : Support library
  support = record {
    can_read = supports.can_read 𝓛 𝓜 fs leaves;
    can_verify = supports.can_verify 𝓛 𝓜 fs leaves;
    can_check = supports.can_check 𝓛 𝓜 fs leaves;
    can_print = supports.can_print 𝓛 𝓜 fs leaves;
    can_prepare = supports.can_prepare 𝓛 𝓜 fs leaves;
    can_step = supports.can_step 𝓛 𝓜 fs leaves;
    can_pass = supports.can_pass 𝓛 𝓜 fs leaves;
    can_settle = supports.can_settle 𝓛 𝓜 fs leaves;
    can_know = supports.can_know 𝓛 𝓜 fs leaves;
    prepared_fit = supports.prepared_fit 𝓛 𝓜 fs leaves;
    stepped_fit = supports.stepped_fit 𝓛 𝓜 fs leaves;
    passed_fit = supports.passed_fit 𝓛 𝓜 fs leaves;
    settled_fit = supports.settled_fit 𝓛 𝓜 fs leaves;
    can_load = supports.can_load 𝓛 𝓜 fs leaves;
    can_next = supports.can_next 𝓛 𝓜 fs leaves;
    can_report = supports.can_report 𝓛 𝓜 fs leaves;
    can_feed = supports.can_feed 𝓛 𝓜 fs leaves;
    can_finish = supports.can_finish 𝓛 𝓜 fs leaves;
    can_line = supports.can_line 𝓛 𝓜 fs leaves;
    kept_somewhere = supports.kept_somewhere 𝓛 𝓜 fs leaves;
    lists_run = lists_run library.runner (runs.going 𝓛 𝓜 fs leaves);
    list_answers = listed_answers library.runner (runs.runner_contracts 𝓛 𝓜 fs leaves);
    fed_fit = fed.fed_fit 𝓛 𝓜 fs leaves contracts;
    streams_fed = fed.streams_fed 𝓛 𝓜 fs leaves contracts;
    sheets_answered = fed.sheets_answered 𝓛 𝓜 fs leaves contracts;
  }

  -- Functions of which each call leaves what that of the library's function does.
  pub demands_of : Demands library
  demands_of = record {
    demand1 = demand1;
    demand2 = demand2 library contracts;
    demand3 = demand3 library contracts;
    constraint = constraint library contracts;
    release = release library contracts;
    pass = pass library contracts;
    support = support;
  }

-- The proofs.
pub demands_everywhere : EveryProgram
demands_everywhere M 𝓤 𝓛 𝓜 𝓡 γ has = demands_of 𝓛 𝓜 (functions_in γ) (calls.laws 𝓛 𝓜 (within 𝓤 𝓛.H 𝓜 𝓡 γ) has)

-- The program that the crates make has the library's code.
program_has : HasLibrary program
unfolding program
program_has =
    let look = in_world crates in
    (has-wired_t look program (tie_t-follows look) (tie_t-threads look) (node [] [] library_code) (tt, tt, library_there crates (refl, refl, refl, refl, refl, refl, refl, refl, refl, refl))).2

pub demands : Theorem
demands M 𝓤 𝓛 𝓜 𝓡 = demands_everywhere M 𝓤 𝓛 𝓜 𝓡 program program_has

-- In the model that the toolchain builds.
pub demands_closed : ClosedTheorem
demands_closed = demands _ closed.𝓤 logic₀ model⁺ real⁺
