-- The steps of a loop over the tables of an array.
use Rattle.std.proofs.Common.{◌≡◌, ℕ, ◌<◌, ◌+◌, List, [], ◌∷◌, ◌++◌, length, drop, get_or, Result, Ok, sym, ap, ◌∙◌, arith, length-append}
use Rattle.toml.specs.View.{view, items_view}
use Rattle.toml.specs.Data.{Data}
use Rattle.toml.proofs.Views.{items_view-drop}
use Rattle.toml.specs.declared.value.Value.{Value}
use Rattle.exp_file.specs.declared.exp_fault.ExpErr.{ExpErr}
use Rattle.exp_file.specs.declared.exp_fault.ExpErr.TheVariants as errors
use Rattle.exp_file.specs.declared.exp_fault.ExpFault.{ExpFault}
use Rattle.exp_file.specs.Keys.{Fails, ◌>>=◌}
use Rattle.exp_file.specs.Tables.{each}

each_step : {A : Type 0} (step : List A → Data → Result A ExpFault) (done : List A) (values : List Value) (i : ℕ) (v : Value) → i < length values → v ≡ get_or values i v
    → each step done (items_view (drop i values)) ≡ (step done (view v) >>= λ x. each step (done ++ x ∷ []) (items_view (drop (i + 1) values)))
each_step step done values i v h same =
    ap (each step done) (items_view-drop values i v h)
    ∙ ap (λ (x : Value). step done (view x) >>= λ s. each step (done ++ s ∷ []) (items_view (drop (i + 1) values))) (sym same)

-- what a loop over the tables keeps, where this is what is left of all
pub record IsAlong {A : Type 0} (step : List A → Data → Result A ExpFault) (done : List A) (values : List Value) (i : ℕ) : Type 0 where
  pub count : length done ≡ i
  pub same : each step done (items_view (drop i values)) ≡ each step [] (items_view values)

pub starts : {A : Type 0} (step : List A → Data → Result A ExpFault) (done : List A) (values : List Value) → done ≡ [] → IsAlong step done values 0
starts step done values e = record {
  count = ap length e;
  same = ap (λ z. each step z (items_view values)) e;
}

pub goes_on : {A : Type 0} (step : List A → Data → Result A ExpFault) (done next : List A) (values : List Value) (i : ℕ) (v : Value) (x : A) → i < length values → v ≡ get_or values i v
    → IsAlong step done values i → step done (view v) ≡ Ok x → next ≡ done ++ x ∷ [] → IsAlong step next values (i + 1)
goes_on step done next values i v x h same along read pushed = record {
  count = omega (arith, ap length pushed, length-append done (x ∷ []), along.count);
  same =
      ap (λ z. each step z (items_view (drop (i + 1) values))) pushed
      ∙ ap (λ r. r >>= λ s. each step (done ++ s ∷ []) (items_view (drop (i + 1) values))) (sym read)
      ∙ sym (each_step step done values i v h same) ∙ along.same;
}

-- a step that fails makes all fail in its way
fails_along : {A B : Type 0} (e : ExpErr) (r : Result A ExpFault) (f : A → Result B ExpFault) (q : Result B ExpFault) → q ≡ (r >>= f) → Fails e r → Fails e q
fails_along errors.NoMemory r f q h k = tt
fails_along (errors.Fault x) r f q h k = h ∙ ap (λ z. z >>= f) k

pub stops : {A : Type 0} (step : List A → Data → Result A ExpFault) (done : List A) (values : List Value) (i : ℕ) (v : Value) (e : ExpErr) → i < length values → v ≡ get_or values i v
    → IsAlong step done values i → Fails e (step done (view v)) → Fails e (each step [] (items_view values))
stops step done values i v e h same along fails =
    fails_along e (step done (view v)) (λ s. each step (done ++ s ∷ []) (items_view (drop (i + 1) values))) _
    (sym along.same ∙ each_step step done values i v h same) fails
