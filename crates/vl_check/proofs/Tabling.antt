-- The table of a design's calls, and the calls of the design.
use Rattle.std.proofs.Common.{◌≡◌, ℕ, zero, suc, ◌<◌, Bool, true, false, List, [], ◌∷◌, map, length, get_or, refl, sym, ap, ◌∙◌, subst, arith}
use Rattle.std.specs.Prelude.{nat_lt, if◌then◌else◌, Option, slice_get}
use Rattle.std.specs.declared.alloc.Global.{Global}
use Rattle.std.specs.declared.vec.Vec.{Vec}
use Rattle.std.proofs.lemmas.List.{length-map}
use mathlib.Core.Logic.{inl, inr}
use Rattle.vl_design.specs.vl_base.specs.declared.place.Place.{Place}
use Rattle.vl_design.specs.declared.stop.Stop.{Stop}
use Rattle.vl_design.specs.declared.design.Func.{Func}
use Rattle.vl_design.specs.Placed as p
use Rattle.vl_design.specs.Seen.{func_of}
use Rattle.vl_design.specs.First.{In, IsFirst}
use Rattle.vl_design.proofs.FirstsOfStops.{IsFirst-same}
use Rattle.vl_sites.specs.Sites.{What, Reads, Sets, Heads, Calls, Delays, Tasks, Site, site, sites}
use Rattle.cell_level.specs.Cycles.{Leads}
use Rattle.vl_check.specs.declared.calls_calls.Call.{Call}
use Rattle.vl_check.specs.Recursion.{body_sites, IsCallAt, IsCall, Reaches, IsRecursion}
use Rattle.vl_check.specs.Tables.{call, calls_at, calls_in, rows_of, row, Step, IsClosed, IsCycleCall}
use Rattle.vl_check.proofs.Lists.{in-left, in-right, in-either, in-one}
use Rattle.vl_design.specs.vl_base.proofs.Numbers.{lt_true as below-is, lt_from as is-below}

-- ---- rows

pub row-at : (table : List (Vec Call Global)) (f : ℕ) (v : Vec Call Global) (cs : List Call) → f < length table → v ≡ get_or table f v → cs ≡ v.items → cs ≡ row (rows_of table) f
row-at [] f v cs l e h = absurd (omega arith)
row-at (x ∷ xs) zero v cs l e h = h ∙ ap (λ (z : Vec Call Global). z.items) e
row-at (x ∷ xs) (suc f) v cs l e h = row-at xs f v cs (omega arith) e h

pub many-rows : (table : List (Vec Call Global)) → length (rows_of table) ≡ length table
many-rows table = length-map table (λ (v : Vec Call Global). v.items)

row-is : (fs : List p.Func) (n f : ℕ) → row (map (λ (g : p.Func). calls_in n (sites g.body)) fs) f ≡ calls_in n (body_sites (slice_get fs f))
row-is [] n f = refl
row-is (x ∷ xs) n zero = refl
row-is (x ∷ xs) n (suc f) = row-is xs n f

-- the rows of the functions of a design
pub design-rows : (ds fs : List Func) (rows all : List (List Call)) → fs ≡ ds → rows ≡ map (λ (g : p.Func). calls_in (length fs) (sites g.body)) (map func_of fs) → all ≡ rows →
    all ≡ map (λ (g : p.Func). calls_in (length (map func_of ds)) (sites g.body)) (map func_of ds)
design-rows ds fs rows all e h k =
    k ∙ h ∙ ap (λ (z : List Func). map (λ (g : p.Func). calls_in (length z) (sites g.body)) (map func_of z)) e
    ∙ ap (λ (n : ℕ). map (λ (g : p.Func). calls_in n (sites g.body)) (map func_of ds)) (sym (length-map ds func_of))

-- ---- sites

at-in : (n : ℕ) (at : Place) (w : What) (c : Call) → In c (calls_at n at w) → (w ≡ Calls c.callee) × (at ≡ c.place) × (c.callee < n)
at-in n at (Calls g) c h = by (nat_lt g n) refl h
  where
    by : (t : Bool) → nat_lt g n ≡ t → In c (if t then call at g ∷ [] else []) → (Calls g ≡ Calls c.callee) × (at ≡ c.place) × (c.callee < n)
    by true e h = let k : call at g ≡ c = in-one (call at g) c h in (ap (λ (z : Call). Calls z.callee) k, ap (λ (z : Call). z.place) k, subst (λ (z : Call). z.callee < n) k (is-below g n e))
    by false e h = absurd h
at-in n at (Reads k) c h = absurd h
at-in n at (Sets k word later) c h = absurd h
at-in n at (Heads k) c h = absurd h
at-in n at Delays c h = absurd h
at-in n at (Tasks name given) c h = absurd h

sites-in : (n : ℕ) (ss : List Site) (c : Call) → In c (calls_in n ss) → In (site c.place (Calls c.callee)) ss × (c.callee < n)
sites-in n [] c h = absurd h
sites-in n (s ∷ ss) c h = elim (in-either (calls_at n s.at s.what) (calls_in n ss) c h) [
  | inl k ↦ let w = at-in n s.at s.what c k in (inl (ap (λ (z : Place). site z s.what) w.1 ∙ ap (λ (z : What). site c.place z) w.0), w.2)
  | inr k ↦ let w = sites-in n ss c k in (inr w.0, w.1)
]

in-calls : (n : ℕ) (ss : List Site) (at : Place) (g : ℕ) → In (site at (Calls g)) ss → g < n → In (call at g) (calls_in n ss)
in-calls n [] at g h l = absurd h
in-calls n (s ∷ ss) at g (inl e) l = in-left (calls_at n s.at s.what) (calls_in n ss) (call at g) (subst (λ (z : Site). In (call at g) (calls_at n z.at z.what)) (sym e) here)
  where
    here : In (call at g) (if nat_lt g n then call at g ∷ [] else [])
    here = subst (λ (t : Bool). In (call at g) (if t then call at g ∷ [] else [])) (sym (below-is g n l)) (inl refl)
in-calls n (s ∷ ss) at g (inr h) l = in-right (calls_at n s.at s.what) (calls_in n ss) (call at g) (in-calls n ss at g h l)

caller-below : (fs : List p.Func) (f : ℕ) (s : Site) → In s (body_sites (slice_get fs f)) → f < length fs
caller-below [] f s h = absurd h
caller-below (x ∷ xs) zero s h = omega arith
caller-below (x ∷ xs) (suc f) s h = let l = caller-below xs f s h in omega (arith, l)

-- ---- calls

module _ (d : p.Design) (rows : List (List Call)) (same : rows ≡ map (λ (g : p.Func). calls_in (length d.funcs) (sites g.body)) d.funcs) where
  row-of : (f : ℕ) → row rows f ≡ calls_in (length d.funcs) (body_sites (slice_get d.funcs f))
  row-of f = ap (λ (z : List (List Call)). row z f) same ∙ row-is d.funcs (length d.funcs) f

  many : length rows ≡ length d.funcs
  many = ap (λ (z : List (List Call)). length z) same ∙ length-map d.funcs (λ (g : p.Func). calls_in (length d.funcs) (sites g.body))

  site-of : (f : ℕ) (c : Call) → In c (row rows f) → IsCallAt d f c.place c.callee × (c.callee < length d.funcs)
  site-of f c h = sites-in (length d.funcs) (body_sites (slice_get d.funcs f)) c (subst (λ (z : List Call). In c z) (row-of f) h)

  call-of : (f : ℕ) (at : Place) (g : ℕ) → IsCallAt d f at g → g < length d.funcs → In (call at g) (row rows f)
  call-of f at g h l = subst (λ (z : List Call). In (call at g) z) (sym (row-of f)) (in-calls (length d.funcs) (body_sites (slice_get d.funcs f)) at g h l)

  pub closed : IsClosed rows
  closed f c h = let w = site-of f c h in let l = w.1 in let m = many in omega (arith, l, m)

  step-call : (f g : ℕ) → Step rows f g → IsCall d f g
  step-call f g e = (e.0.place, subst (λ (z : ℕ). IsCallAt d f e.0.place z) e.2 (site-of f e.0 e.1).0)

  call-step : (f g : ℕ) → IsCall d f g → g < length d.funcs → Step rows f g
  call-step f g w l = (call w.0 g, call-of f w.0 g w.1 l, refl)

  calls-below : (f : ℕ) (at : Place) (g : ℕ) → IsCallAt d f at g → f < length d.funcs
  calls-below f at g h = caller-below d.funcs f (site at (Calls g)) h

  starts : (q : ℕ) (qs : List ℕ) (z : ℕ) → Leads (IsCall d) q qs z → q < length d.funcs
  starts q [] z w = calls-below q w.0 z w.1
  starts q (r ∷ rs) z w = calls-below q w.0.0 r w.0.1

  leads-to : (q : ℕ) (qs : List ℕ) (z : ℕ) → Leads (Step rows) q qs z → Leads (IsCall d) q qs z
  leads-to q [] z w = step-call q z w
  leads-to q (r ∷ rs) z w = (step-call q r w.0, leads-to r rs z w.1)

  leads-from : (q : ℕ) (qs : List ℕ) (z : ℕ) → Leads (IsCall d) q qs z → z < length d.funcs → Leads (Step rows) q qs z
  leads-from q [] z w l = call-step q z w l
  leads-from q (r ∷ rs) z w l = (call-step q r w.0 (starts r rs z w.1), leads-from r rs z w.1 l)

  reach-to : (g f : ℕ) → Reaches (Step rows) g f → Reaches (IsCall d) g f
  reach-to g f (inl e) = inl e
  reach-to g f (inr w) = inr (w.0, leads-to g w.0 f w.1)

  reach-from : (g f : ℕ) → f < length d.funcs → Reaches (IsCall d) g f → Reaches (Step rows) g f
  reach-from g f l (inl e) = inl e
  reach-from g f l (inr w) = inr (w.0, leads-from g w.0 f w.1 l)

  reached-below : (g f : ℕ) → f < length d.funcs → Reaches (IsCall d) g f → g < length d.funcs
  reached-below g f l (inl e) = subst (λ (z : ℕ). z < length d.funcs) (sym e) l
  reached-below g f l (inr w) = starts g w.0 f w.1

  pub recursion-first : (r : Option Stop) → IsFirst (IsCycleCall rows) r → IsFirst (IsRecursion d) r
  recursion-first r h = IsFirst-same (IsCycleCall rows) (IsRecursion d) (λ s. (
    λ w. (w.0, w.1.callee, w.1.place, (site-of w.0 w.1 w.2).0, reach-to w.1.callee w.0 w.3.0, w.3.1),
    λ w.
        let l = calls-below w.0 w.2 w.1 w.3 in
        let m = reached-below w.1 w.0 l w.4 in
        (w.0, call w.2 w.1, call-of w.0 w.2 w.1 w.3 m, (reach-from w.1 w.0 l w.4, w.5)),
  )) r h
