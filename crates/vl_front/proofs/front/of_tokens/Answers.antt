use Rattle.std.proofs.Common.{◌≡◌, ℕ, List, Err, inl, inr, ◌⊎◌, refl, subst, ap}
use Rattle.vl_elab.specs.vl_base.specs.declared.place.Place.{Place}
use Rattle.vl_lex.specs.vl_tree.specs.declared.token.Token.{Token}
use Rattle.vl_lex.specs.vl_tree.specs.Faults.{IsRead}
use Rattle.vl_lex.specs.vl_tree.specs.FaultsOfSource.{PassesLimit, IsFirstFault, statement_limit, expression_limit}
use Rattle.vl_front.specs.declared.fault.Kind.TheVariants as k
use Rattle.vl_front.specs.Sources.{IsRefusal, unparsed, too_deep, too_long, end_of}
use Rattle.vl_front.proofs.Telling.{told}
use Rattle.vl_front.proofs.front.of_tokens.Goals as goal

limit_of : (text : List ℕ) (tokens : List Token) (p : Place) (n : ℕ) (end : Place) → IsRead text tokens → end ≡ end_of text
    → ((n ≡ 3) × PassesLimit statement_limit tokens end p) ⊎ ((n ≡ 4) × PassesLimit expression_limit tokens end p) → IsRefusal text p (k.Limit n)
limit_of text tokens p n end read at (inl h) = too_deep read (subst (λ q. PassesLimit statement_limit tokens q p) at h.1) (ap (λ z. k.Limit z) h.0)
limit_of text tokens p n end read at (inr h) = too_long read (subst (λ q. PassesLimit expression_limit tokens q p) at h.1) (ap (λ z. k.Limit z) h.0)

pub returns-in-Ok : goal.returns-in-Ok
returns-in-Ok c = λ text read at. c.of_tree.ensures text (record { tokens = c.args.tokens.now; read = read; parsed = c.in-Ok.ensures.within })

pub returns-in-Err-At : goal.returns-in-Err-At
returns-in-Err-At c = λ text read at.
    told text _ _ _ _ _ c.refused.ensures c.in-Err-At.place-is refl
    (unparsed read (subst (λ q. IsFirstFault c.args.tokens.now q c.in-Err-At.place) at (c.in-Err-At.ensures.fault c.in-Err-At.place (ap Err c.in-Err-At.field-0-is))) refl)

pub returns-in-Err-Limit : goal.returns-in-Err-Limit
returns-in-Err-Limit c = λ text read at.
    told text _ _ _ _ _ c.refused-in-Err-Limit.ensures c.in-Err-Limit.place-is (ap (λ n. k.Limit n) c.in-Err-Limit.number-is)
    (limit_of text c.args.tokens.now _ _ c.args.end read at (c.in-Err-Limit.ensures.limit _ _ (ap Err c.in-Err-Limit.field-0-is)))
