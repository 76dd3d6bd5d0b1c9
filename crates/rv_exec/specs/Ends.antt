-- What a function that performs an instruction answers and leaves, as an outcome.
use Rattle.std.specs.Prelude.{Result, Ok, Err}
use Rattle.rv_exec.specs.declared.exception.Exception.{Exception}
use Rattle.rv_exec.specs.HartState.{HartState}
use Rattle.rv_exec.specs.Meaning.{Outcome, Done, Raises}

abbrev pub outcome_of : Result (Unit {0}) Exception → HartState → Outcome
outcome_of (Ok u) h = Done h
outcome_of (Err e) h = Raises e.cause e.value
