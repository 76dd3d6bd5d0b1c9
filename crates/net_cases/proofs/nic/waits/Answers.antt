use Rattle.net_cases.proofs.nic.waits.Goals as goal

pub next_due-requires : goal.next_due-requires
next_due-requires c = (c.requires.coming 0).set_up
