use Rattle.std.proofs.Common.{◌≡◌, ◌==◌, ◌++◌, ◌∷◌, [], List, ℕ, Bor, map, length, sym, ap, ◌∙◌, subst}
use Rattle.host_text.specs.Words.{without_empty_rest}
use Rattle.host_text.proofs.Rests.{rest-empty, rest-full}
use Rattle.host_text.proofs.lines.without_empty_rest.Goals as goal

pub returns-then-is_empty : goal.returns-then-is_empty
returns-then-is_empty c =
    rest-empty c.args.lines.items c.pop.new.self.items c.in-Some.rest c.in-Some.ensures.items (sym c.is_empty.ensures ∙ c.if-is_empty.true)

pub returns : goal.returns
returns c =
    subst (λ (rs : List (Bor (List ℕ))). map (λ r. r.now) rs ≡ without_empty_rest (map (λ r. r.now) c.args.lines.items)) (sym c.in_ok-push.ensures.items)
    (rest-full c.args.lines.items c.pop.new.self.items c.in-Some.rest c.in-Some.ensures.items (sym c.is_empty.ensures ∙ c.if-is_empty.false))
