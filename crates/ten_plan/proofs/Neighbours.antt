-- Errands are in order where each may come before its neighbour.
use Rattle.std.proofs.Common.{◌≡◌, ℕ, ◌+◌, ◌≤◌, ◌<◌, Bool, true, ◌&&◌, ◌||◌, ◌==◌, nat_lt, List, [], ◌∷◌, map, drop, length, get_or, sym, ap, ◌∙◌, subst, arith}
use Rattle.std.proofs.lemmas.List.{drop_more, drop-map, length-drop, length-map}
use Rattle.std.proofs.lemmas.Bool.Decides.{nat_tests}
use Rattle.vl_design.specs.Alone.{Errand}
use Rattle.ten_plan.specs.declared.plan.Errand as declared
use Rattle.ten_plan.specs.Plans.{errand_of, is_save, may_precede, AreOrdered}
use Rattle.ten_plan.proofs.Ordered.{weaker, ordered-drop}

-- what may come before f, which may come before g, may come before g
between : (t u v : ℕ) (a b : Bool) → (nat_lt t u || ((t == u) && a)) ≡ true → (nat_lt u v || ((u == v) && b)) ≡ true → (nat_lt t v || ((t == v) && a)) ≡ true
between t u v a b p q = grind (arith, nat_tests)

before-next : (e f : Errand) (es : List Errand) → may_precede e f ≡ true → AreOrdered (f ∷ es) → AreOrdered (e ∷ f ∷ es)
before-next e f es p h =
    ((p, weaker (λ g. may_precede f g ≡ true) (λ g. may_precede e g ≡ true) (λ g q. between e.tick f.tick g.tick (is_save e.due) (is_save f.due) p q) es h.0), h)

-- one errand is in order
short : (es : List Errand) → length es ≤ 1 → AreOrdered es
short [] h = tt
short (e ∷ []) h = (tt, tt)
short (e ∷ f ∷ es) h = absurd (omega arith)

module _ (es : List declared.Errand) where
  abbrev items : List Errand
  items = map errand_of es

  here : (n : ℕ) (e : declared.Errand) → n < length es → e ≡ get_or es n e → drop n items ≡ errand_of e ∷ drop (n + 1) items
  here n e lt is =
      drop-map errand_of n es ∙ ap (map errand_of) (drop_more es n e lt)
      ∙ (ap (λ x. errand_of x ∷ map errand_of (drop (n + 1) es)) (sym is) ∙ ap (λ ys. errand_of e ∷ ys) (sym (drop-map errand_of (n + 1) es)))

  -- the errands from n on are in order
  abbrev pub From : ℕ → Type 0
  From n = AreOrdered (drop n items)

  pub from-all : (n : ℕ) → AreOrdered items → From n
  from-all n h = ordered-drop n items h

  module _ (n m : ℕ) (e f : declared.Errand) (same : m ≡ n + 1) (lt : m < length es) (is : e ≡ get_or es n e) (next : f ≡ get_or es m f) where
    after : drop m items ≡ errand_of f ∷ drop (m + 1) items
    after = here m f lt next

    two : drop n items ≡ errand_of e ∷ errand_of f ∷ drop (m + 1) items
    two = here n e (omega arith) is ∙ ap (λ k. errand_of e ∷ drop k items) (sym same) ∙ ap (λ ys. errand_of e ∷ ys) after

    pub step : may_precede (errand_of e) (errand_of f) ≡ true → From m → From n
    step p h = subst AreOrdered (sym two) (before-next (errand_of e) (errand_of f) _ p (subst AreOrdered after h))

    pub fails : From n → may_precede (errand_of e) (errand_of f) ≡ true
    fails h = (subst AreOrdered two h).0.0

  pub last : (n : ℕ) → length es ≤ n + 1 → From n
  last n le = short (drop n items) (omega (arith, length-drop n items, length-map es errand_of))
