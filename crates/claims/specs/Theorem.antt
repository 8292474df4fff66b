-- The theorem's type: the demands, and what document 02 adds to them, hold of the library's functions, in every model of the machine in which functions run, and
-- so in the one that the toolchain builds. (recovery_c/proofs/Theorem says the same of the exports that C links, which call these functions.)
use seplogic.Ra.Ura.{Ura}
use prog.Model.{Model}
use types.Logic.{Logic}
use prog.Routine.{Env}
use contract.Running.{Running}
use contract.Closed.{model⁺}
use ghost.Model as closed
use Rattle.claims.specs.Library.{Library}
use Rattle.claims.specs.Linked.{linked}
use Rattle.claims.specs.Program.{functions_in, HasLibrary, program}
use Rattle.claims.specs.Demand1.{Demand1}
use Rattle.claims.specs.Demand2.{Demand2}
use Rattle.claims.specs.Demand3.{Demand3}
use Rattle.claims.specs.Constraint.{Constraint}
use Rattle.claims.specs.Release.{Release}
use Rattle.claims.specs.Pass.{Pass}
use Rattle.claims.specs.Support.{Support}

-- "From now on the demands and document 01 are read with what each request adds to sheet, record and numbers."
pub record Demands {ℓ} (library : Library {ℓ}) : Type ℓ where
  pub demand1 : Demand1 library
  pub demand2 : Demand2 library
  pub demand3 : Demand3 library
  pub constraint : Constraint library
  pub release : Release library
  pub pass : Pass library
  pub support : Support library

abbrev pub Theorem : Type 2
Theorem = (M : Type 1) (𝓤 : Ura M) (𝓛 : Logic 𝓤) (𝓜 : Model 𝓤 𝓛.H) → Running 𝓤 𝓛.H 𝓜 → Demands (linked 𝓤 𝓛.H 𝓜 (functions_in program))

-- In every program that has the functions' code.
abbrev pub EveryProgram : Type 2
EveryProgram =
    (M : Type 1) (𝓤 : Ura M) (𝓛 : Logic 𝓤) (𝓜 : Model 𝓤 𝓛.H) → Running 𝓤 𝓛.H 𝓜
    → (γ : Env) → HasLibrary γ → Demands (linked 𝓤 𝓛.H 𝓜 (functions_in γ))

abbrev pub ClosedTheorem : Type 1
ClosedTheorem = Demands (linked closed.𝓤 closed.H model⁺ (functions_in program))
