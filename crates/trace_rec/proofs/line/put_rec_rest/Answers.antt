use Rattle.std.proofs.Common.{◌≡◌, ◌∙◌, ◌++◌, ℕ, List, ap, sym, codes}
use Rattle.std.proofs.lemmas.Result.{on_ok_weaker}
use Rattle.trace_rec.specs.Lines.{line_rest, word_pair, what_words}
use Rattle.trace_rec.specs.declared.what.What.{What}
use Rattle.trace_rec.specs.declared.what.What.TheVariants.{Instr}
use Rattle.trace_rec.proofs.line.put_rec_rest.Goals as goal

instr_line : (what : What) (pc word : ℕ) → what ≡ Instr pc word → word_pair (codes " instr ") pc word ++ codes "\n" ≡ line_rest what
unfolding what_words
instr_line what pc word is = ap line_rest (sym is)

pub returns-in-Instr-clause-ok : goal.returns-in-Instr-clause-ok
returns-in-Instr-clause-ok c =
    on_ok_weaker c.put_word.result
    (λ e. e ∙ ap (λ (t : List ℕ). c.args.out.now ++ t) (c.instr_rest.ensures ∙ instr_line c.args.what.now c.in-Instr.pc c.in-Instr.word c.in-Instr.is))
    c.put_word.ensures.ok
