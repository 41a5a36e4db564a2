-- An entry point is a function and its contract, as the checker reads it. A demand says something of every call that
-- the contract allows, so that a contract that grew looser would fail here.
use Rattle.std.specs.Prelude.{ℕ, List}
use contract.Lifetimes.{Lfts}
use borrow.Fn.Kinds.{ParamKind, ResultKind, Dens, In, Out, res_t, ended_of}
use denote.Triple.Clauses.{Lasts, at_exit}

-- a function: what it takes and gives back, what its contract asks and allows, and that its code meets it
pub record Function : Type 3 where
  pub lifetimes : ℕ
  pub takes : List (ParamKind lifetimes)
  pub gives : ResultKind lifetimes
  pub asks : In lifetimes takes
  pub allows : Out lifetimes takes gives
  pub met : Type 1 → Type 2

abbrev pub function :
    (n : ℕ) (ps : List (ParamKind n)) (r : ResultKind n) → In n ps → Out n ps r → (Type 1 → Type 2) → Function
function n ps r pre post statement =
    record { lifetimes = n; takes = ps; gives = r; asks = pre; allows = post; met = statement }

-- one call: what was given, what came back, and the last value of each lent word; the contract allows it
pub record Call (f : Function) : Type 0 where
  pub lifetimes : Lfts f.lifetimes
  pub given : Dens lifetimes f.takes
  pub back : (res_t f.gives lifetimes).Denot
  pub left : Lasts (ended_of f.lifetimes f.takes f.gives) lifetimes given
  pub allowed :
      f.allows lifetimes given back (at_exit (ended_of f.lifetimes f.takes f.gives) lifetimes given left)

-- the function takes any arguments and ends, and each call of it is as told
pub record Entry (f : Function) (Says : Call f → Type 0) : Type 2 where
  -- "Any RAM, settings and message record may be given."
  pub any : (κs : Lfts f.lifetimes) (given : Dens κs f.takes) → f.asks κs given
  -- "Each entry point ends": the code meets its contract, on every model of memory
  pub ends : {M : Type 1} → f.met M
  pub says : (c : Call f) → Says c
