use Rattle.net_cases.proofs.nic.interrupts.Goals as goal

pub lines-requires : goal.lines-requires
lines-requires c = (c.requires.coming 0).set_up
