use Rattle.std.proofs.Common.{◌≡◌, ℕ, ◌+◌, Bool, ◌||◌, ◌∙◌, sym, ap, subst, arith, false, true, set, replicate, List, Some, None, Ok}
use Rattle.std.proofs.lemmas.Bool.{not-true, not-false}
use Rattle.split_queue.specs.declared.descriptor.Descriptor.{Descriptor}
use Rattle.split_queue.specs.Chains.{ChainOf}
use Rattle.split_queue.specs.Rings.{descriptor_at}
use Rattle.split_queue.specs.Paths.{start, Start, fault_of}
use Rattle.split_queue.specs.Walks.{added}
use Rattle.split_queue.proofs.Along.{Along}
use Rattle.split_queue.proofs.AlongLemmas.{along_room, along_start, along_met, along_fault, along_first, along_end, along_next}
use Rattle.split_queue.proofs.walk.walk.Goals as goal

pub steps-init : goal.steps-init
steps-init c =
    let s : Start = start c.args.ram.now c.args.table c.args.size c.args.head in
    subst (λ (x : ChainOf). Along s 0 c.args.head (replicate 64 false) false x) (sym c.requires.blank) (along_start s c.requires.size c.requires.head)

pub returns-then-met-place-clause-err : goal.returns-then-met-place-clause-err
returns-then-met-place-clause-err c =
    let s : Start = start c.args.ram.now c.args.table c.args.size c.args.head in
    sym (along_met s c.steps.steps c.steps.place c.steps.met c.steps.after c.steps.chain c.steps.invariant c.if-met-place.true)

pub returns-in-Some-clause-err : goal.returns-in-Some-clause-err
returns-in-Some-clause-err c =
    let s : Start = start c.args.ram.now c.args.table c.args.size c.args.head in
    let g : fault_of s.ram s.size c.steps.after (descriptor_at s.ram s.table c.steps.place) ≡ Some c.in-Some.why = ap (λ (d : Descriptor). fault_of s.ram s.size c.steps.after d) (sym c.descriptor_at-d.ensures) ∙ (sym c.fault_of.ensures.is ∙ c.in-Some.is) in
    sym (along_fault s c.steps.steps c.steps.place c.steps.met c.steps.after c.steps.chain c.in-Some.why c.steps.invariant c.if-met-place.false g)

pub add-requires-clause-room : goal.add-requires-clause-room
add-requires-clause-room c =
    let s : Start = start c.args.ram.now c.args.table c.args.size c.args.head in
    omega (arith, c.steps.invariant.lengths, along_room s c.steps.steps c.steps.place c.steps.met c.steps.after c.steps.chain c.steps.invariant c.if-met-place.false)

pub add-requires-clause-order : goal.add-requires-clause-order
add-requires-clause-order c w =
    let s : Start = start c.args.ram.now c.args.table c.args.size c.args.head in
    let m = c.descriptor_at-d.ensures in
    let g : fault_of s.ram s.size c.steps.after (descriptor_at s.ram s.table c.steps.place) ≡ None = ap (λ (d : Descriptor). fault_of s.ram s.size c.steps.after d) (sym m) ∙ (sym c.fault_of.ensures.is ∙ c.in-None.is) in
    along_first s c.steps.steps c.steps.place c.steps.met c.steps.after c.steps.chain c.steps.invariant g (ap (λ (d : Descriptor). d.writable) (sym m) ∙ w)

pub returns-then-not-d-clause-ok : goal.returns-then-not-d-clause-ok
returns-then-not-d-clause-ok c =
    let s : Start = start c.args.ram.now c.args.table c.args.size c.args.head in
    let m = c.descriptor_at-d.ensures in
    let g : fault_of s.ram s.size c.steps.after (descriptor_at s.ram s.table c.steps.place) ≡ None = ap (λ (d : Descriptor). fault_of s.ram s.size c.steps.after d) (sym m) ∙ (sym c.fault_of.ensures.is ∙ c.in-None.is) in
    let o : (descriptor_at s.ram s.table c.steps.place).goes_on ≡ false = ap (λ (d : Descriptor). d.goes_on) (sym m) ∙ not-true _ c.if-not-d.true in
    ap Ok (c.add.ensures ∙ ap (added c.steps.chain) m) ∙ sym (along_end s c.steps.steps c.steps.place c.steps.met c.steps.after c.steps.chain c.steps.invariant c.if-met-place.false g o)

pub steps-smaller : goal.steps-smaller
steps-smaller c =
    let s : Start = start c.args.ram.now c.args.table c.args.size c.args.head in
    let k = along_room s c.steps.steps c.steps.place c.steps.met c.steps.after c.steps.chain c.steps.invariant c.if-met-place.false in
    omega arith

pub steps-preserved : goal.steps-preserved
steps-preserved c =
    let s : Start = start c.args.ram.now c.args.table c.args.size c.args.head in
    let m = c.descriptor_at-d.ensures in
    let d : Descriptor = c.descriptor_at-d.result in
    let n : ℕ = c.steps.steps + 1 in
    let met : List Bool = set c.steps.met c.steps.place true in
    let g : fault_of s.ram s.size c.steps.after (descriptor_at s.ram s.table c.steps.place) ≡ None = ap (λ (x : Descriptor). fault_of s.ram s.size c.steps.after x) (sym m) ∙ (sym c.fault_of.ensures.is ∙ c.in-None.is) in
    let o : (descriptor_at s.ram s.table c.steps.place).goes_on ≡ true = ap (λ (x : Descriptor). x.goes_on) (sym m) ∙ not-false _ c.if-not-d.false in
    let a = along_next s c.steps.steps c.steps.place c.steps.met c.steps.after c.steps.chain c.steps.invariant c.if-met-place.false g o in
    let b = subst (λ (x : Descriptor). Along s n x.next met (c.steps.after || x.writable) (added c.steps.chain x)) (sym m) a in
    let e = subst (λ (x : ChainOf). Along s n d.next met (c.steps.after || d.writable) x) (sym c.add.ensures) b in
    subst (λ (x : Bool). Along s n d.next met x c.add.new.chain) (sym c.either-after.ensures) e
