use Rattle.words_line.proofs.UsualWalks.{six_words, seven_words, two_words}
use Rattle.words_line.proofs.UsualCommands.{run_words, run_any, summary_words, plan_words, gen_words}
use Rattle.words_line.proofs.law.usual_words.Goals as goal

pub returns : goal.returns
returns c = record { places = six_words; dashes = seven_words; two = two_words; run = run_words; any_file = run_any; summary = summary_words; plan = plan_words; load = gen_words }
