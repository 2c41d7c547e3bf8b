use Rattle.std.proofs.Common.{◌≡◌, ◌+◌, ◌++◌, ◌∷◌, [], ◌==◌, List, ℕ, if◌then◌else◌, take, drop, get_or, sym, ap, ◌∙◌, append-nil}
use Rattle.host_text.specs.Words.{uncommented}
use Rattle.host_text.proofs.Rests.{nothing-left}
use Rattle.host_text.proofs.words.uncommented.Goals as goal

pub returns-then-byte-eq35 : goal.returns-then-byte-eq35
returns-then-byte-eq35 c =
    let front = take c.loop-i.i c.args.text.now in
    c.split_at.ensures.front
    ∙ sym (c.loop-i.invariant ∙ ap (λ (rest : List ℕ). front ++ rest) (nothing-left c.args.text.now c.loop-i.i c.loop-i-test.true c.if-byte-eq35.true) ∙ append-nil front)
