-- The theorem of claims, of the functions that C calls, the exports of the static library: the demands hold of them in every model of the machine in which functions run, in every
-- program that has their code, and so in the one that the crates make and in the model that the toolchain builds. Assumes nothing.
use seplogic.Ra.Ura.{Ura}
use prog.Model.{Model}
use prog.Routine.{Env}
use types.Logic.{Logic}
use contract.BorrowModel.{logic₀}
use contract.Running.{Running, within}
use contract.Closed.{model⁺, real⁺}
use ghost.Model as closed
use Rattle.claims.specs.Linked.{linked}
use Rattle.claims.specs.Theorem.{Demands}
use Rattle.claims.proofs.Theorem.{demands_of}
use Rattle.recovery_c.proofs.Exports.{exports_in, HasExports, program, program_has, laws}

abbrev pub Theorem : Type 2
Theorem = (M : Type 1) (𝓤 : Ura M) (𝓛 : Logic 𝓤) (𝓜 : Model 𝓤 𝓛.H) → Running 𝓤 𝓛.H 𝓜 → Demands (linked 𝓤 𝓛.H 𝓜 (exports_in program))

-- In every program that has the exports' code.
abbrev pub EveryProgram : Type 2
EveryProgram =
    (M : Type 1) (𝓤 : Ura M) (𝓛 : Logic 𝓤) (𝓜 : Model 𝓤 𝓛.H) → Running 𝓤 𝓛.H 𝓜
    → (γ : Env) → HasExports γ → Demands (linked 𝓤 𝓛.H 𝓜 (exports_in γ))

abbrev pub ClosedTheorem : Type 1
ClosedTheorem = Demands (linked closed.𝓤 closed.H model⁺ (exports_in program))

pub demands_everywhere : EveryProgram
demands_everywhere M 𝓤 𝓛 𝓜 𝓡 γ has = demands_of 𝓛 𝓜 (exports_in γ) (laws 𝓛 𝓜 (within 𝓤 𝓛.H 𝓜 𝓡 γ) has)

pub demands : Theorem
demands M 𝓤 𝓛 𝓜 𝓡 = demands_everywhere M 𝓤 𝓛 𝓜 𝓡 program program_has

pub demands_closed : ClosedTheorem
demands_closed = demands _ closed.𝓤 logic₀ model⁺ real⁺
