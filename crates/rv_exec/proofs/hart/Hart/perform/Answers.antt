-- The arms whose outcome is chosen by a test.
use Rattle.std.proofs.Common.{refl, rules}
use Rattle.std.proofs.lemmas.Int.{to_z-of_z}
use Rattle.std.specs.Int.{w32}
use mir.Val.{SFits}
use Rattle.rv_exec.proofs.hart.Hart.perform.Goals as goal

pub returns-in-Beq-clause-outcome : goal.returns-in-Beq-clause-outcome
returns-in-Beq-clause-outcome g c =
    let fits : SFits w32 c.in-Beq.imm = search rules in
    let gone = simp to_z-of_z at c.branch-self.ensures.outcome in
    rw (c.in-Beq.is, gone, c.reg.ensures, c.reg-in-Beq.ensures) refl

pub returns-in-Bne-clause-outcome : goal.returns-in-Bne-clause-outcome
returns-in-Bne-clause-outcome g c =
    let fits : SFits w32 c.in-Bne.imm = search rules in
    let gone = simp to_z-of_z at c.branch-self-in-Bne.ensures.outcome in
    rw (c.in-Bne.is, gone, c.reg-in-Bne.ensures, c.reg-in-Bne-2.ensures) refl

pub returns-in-Blt-clause-outcome : goal.returns-in-Blt-clause-outcome
returns-in-Blt-clause-outcome g c =
    let fits : SFits w32 c.in-Blt.imm = search rules in
    let gone = simp to_z-of_z at c.branch-self-in-Blt.ensures.outcome in
    rw (c.in-Blt.is, gone, c.slt.ensures, c.reg-in-Blt.ensures, c.reg-in-Blt-2.ensures) refl

pub returns-in-Bge-clause-outcome : goal.returns-in-Bge-clause-outcome
returns-in-Bge-clause-outcome g c =
    let fits : SFits w32 c.in-Bge.imm = search rules in
    let gone = simp to_z-of_z at c.branch-self-in-Bge.ensures.outcome in
    rw (c.in-Bge.is, gone, c.slt-in-Bge.ensures, c.reg-in-Bge.ensures, c.reg-in-Bge-2.ensures) refl

pub returns-in-Bltu-clause-outcome : goal.returns-in-Bltu-clause-outcome
returns-in-Bltu-clause-outcome g c =
    let fits : SFits w32 c.in-Bltu.imm = search rules in
    let gone = simp to_z-of_z at c.branch-self-in-Bltu.ensures.outcome in
    rw (c.in-Bltu.is, gone, c.sltu.ensures, c.reg-in-Bltu.ensures, c.reg-in-Bltu-2.ensures) refl

pub returns-in-Bgeu-clause-outcome : goal.returns-in-Bgeu-clause-outcome
returns-in-Bgeu-clause-outcome g c =
    let fits : SFits w32 c.in-Bgeu.imm = search rules in
    let gone = simp to_z-of_z at c.branch-self-in-Bgeu.ensures.outcome in
    rw (c.in-Bgeu.is, gone, c.sltu-in-Bgeu.ensures, c.reg-in-Bgeu.ensures, c.reg-in-Bgeu-2.ensures) refl

pub returns-in-Jalr-clause-outcome : goal.returns-in-Jalr-clause-outcome
returns-in-Jalr-clause-outcome g c =
    let fits : SFits w32 c.in-Jalr.imm = search rules in
    let summed = simp to_z-of_z at c.sum.ensures in
    rw (c.in-Jalr.is, c.jump-in-Jalr.ensures.outcome, summed) refl
