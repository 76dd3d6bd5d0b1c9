use Rattle.std.proofs.Common.{ap, ◌∙◌}
use Rattle.toml.specs.View.{table_view}
use Rattle.exp_file.specs.Keys.{first_unknown, keys_of}
use Rattle.exp_file.proofs.FirstKeys.{told_least, told_none}
use Rattle.exp_file.proofs.unknown.unknown_key.Goals as goal

pub returns-clause-least : goal.returns-clause-least
returns-clause-least c =
    told_least c.first_unknown.result (keys_of c.args.section) c.args.table.now.entries
    (c.first_unknown.ensures.first ∙ ap (λ ks. first_unknown ks (table_view c.args.table.now)) c.keys_of.ensures) c.first_unknown.ensures.ordered

pub returns-clause-none : goal.returns-clause-none
returns-clause-none c =
    told_none c.first_unknown.result (keys_of c.args.section) (table_view c.args.table.now)
    (c.first_unknown.ensures.first ∙ ap (λ ks. first_unknown ks (table_view c.args.table.now)) c.keys_of.ensures)
