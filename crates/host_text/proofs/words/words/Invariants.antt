use Rattle.std.proofs.Common.{◌≡◌, ◌==◌, not, filter, length, map, take}
use Rattle.host_text.proofs.words.words.Given as goal

abbrev pub invariant-loop-piece : goal.invariant-loop-piece
invariant-loop-piece l = map (λ x. x.now) l.words.items ≡ filter (λ w. not (length w == 0)) (map (λ x. x.now) (take l.piece-index l.piece-items))
