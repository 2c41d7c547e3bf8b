-- Left sides, name by name.
use Rattle.std.proofs.Common.{◌≡◌, ℕ, Bool, true, false, true≢false, List, sym}
use Rattle.std.proofs.lemmas.Bool.{and_parts}
use Rattle.vl_sound.specs.vl_flat.specs.Surface as x
use Rattle.vl_sound.specs.vl_flat.specs.Scopes.{Env}
use Rattle.vl_sound.specs.vl_flat.specs.Connections as cn
use Rattle.vl_sound.specs.Used.{Classes}
use Rattle.elab_laws.proofs.Leaves.{LeftAll, LeftsAll, Has, ExsHave, SelectsHave, LeftHas, IsPlain, IsStoredName, IsLeft, IsDrivenName, IsDrivenLeft}

module _ (M N : List ℕ → x.Selects → Type 0) (g : (t : List ℕ) (ss : x.Selects) → M t ss → N t ss) where
  mutual
    pub left-weaker : (l : x.Left) → LeftAll M l → LeftAll N l
    left-weaker (x.LeftName at t ss) h = g t ss h
    left-weaker (x.LeftList at ls) h = lefts-weaker ls h

    lefts-weaker : (ls : x.Lefts) → LeftsAll M ls → LeftsAll N ls
    lefts-weaker x.NoLefts h = tt
    lefts-weaker (x.MoreLefts l ls) h = (left-weaker l h.0, lefts-weaker ls h.1)

pub left-plain : (timed : Bool) (k : Classes) (l : x.Left) → IsLeft k timed l → LeftHas (IsPlain timed) l
left-plain timed k l h = left-weaker (IsStoredName k timed) (λ t ss. SelectsHave (IsPlain timed) ss) (λ t ss u. u.1) l h

pub driven-plain : (timed : Bool) (k : Classes) (l : x.Left) → IsDrivenLeft k timed l → LeftHas (IsPlain timed) l
driven-plain timed k l h = left-weaker (IsDrivenName k timed) (λ t ss. SelectsHave (IsPlain timed) ss) (λ t ss u. u.1.1) l h

-- ---- what outputs are connected to

module _ (env : Env) where
  -- a net, with constant selects
  abbrev pub IsOutput : List ℕ → x.Selects → Type 0
  IsOutput t ss = (cn.is_net (env t) ≡ true) × (cn.are_constant env ss ≡ true) × SelectsHave (IsPlain false) ss

  mutual
    pub output-left : (a : x.Ex) → cn.are_nets env a ≡ true → Has (IsPlain false) a → LeftAll IsOutput (cn.left_of a)
    output-left (x.Named at n ss) h v = let q = and_parts (cn.is_net (env n)) (cn.are_constant env ss) h in (q.0, q.1, v.1)
    output-left (x.Paren at a) h v = output-left a h v
    output-left (x.Joined at es) h v = outputs-left es h v
    output-left a h v = absurd (true≢false (sym h))

    outputs-left : (es : x.Exs) → cn.all_nets env es ≡ true → ExsHave (IsPlain false) es → LeftsAll IsOutput (cn.lefts_of es)
    outputs-left x.NoExs h v = tt
    outputs-left (x.MoreExs a es) h v = let q = and_parts (cn.are_nets env a) (cn.all_nets env es) h in (output-left a q.0 v.0, outputs-left es q.1 v.1)

  pub output-plain : (l : x.Left) → LeftAll IsOutput l → LeftHas (IsPlain false) l
  output-plain l h = left-weaker IsOutput (λ t ss. SelectsHave (IsPlain false) ss) (λ t ss u. u.2) l h
