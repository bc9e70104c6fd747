use Rattle.std.proofs.Common.{sym, ◌∙◌, arith}
use Rattle.uv_script.proofs.FirstWords.{words_of-until, words_of-whole}
use Rattle.uv_script.proofs.words.word_end.Goals as goal

pub returns-then-is_blank-clause-words : goal.returns-then-is_blank-clause-words
returns-then-is_blank-clause-words c =
    words_of-until c.args.text.now c.loop-at.at c.loop-at-test.true c.requires.begins c.loop-at.invariant (sym c.is_blank.ensures ∙ c.if-is_blank.true)

pub returns-clause-words : goal.returns-clause-words
returns-clause-words c =
    words_of-whole c.args.text.now c.requires.some (λ k below. c.loop-at.invariant k (omega arith))
