-- The loops of what has no fault are as unrolling wants them.
use Rattle.std.proofs.Common.{◌≡◌, refl, sym, ap, ◌∙◌, ℕ, Bool, true, false, List, [], ◌∷◌, map}
use Rattle.std.specs.Prelude.{◌++◌, ◌||◌, ◌&&◌, ◌==◌, not, flat_map}
use Rattle.std.specs.List.{list_any}
use Rattle.std.proofs.lemmas.List.Folds.{list_any-append}
use Rattle.std.proofs.lemmas.Bool.{eqb-true}
use Rattle.vl_latch.specs.vl_base.specs.declared.bits.UnOp.TheVariants as u
use Rattle.vl_check.specs.vl_design.specs.Rows.{row_of}
use Rattle.vl_check.specs.vl_design.specs.Syntax as d
use Rattle.vl_check.specs.vl_design.specs.Placed as p
use Rattle.vl_check.specs.vl_design.specs.Plainly as plain
use Rattle.vl_check.specs.vl_design.specs.Stops.{construct_if}
use Rattle.vl_check.specs.vl_sites.specs.Sites as s
use Rattle.vl_unroll.specs.vl_loops.specs.Unroll as t
use Rattle.vl_unroll.specs.vl_loops.specs.Fits.{IsHeader, Assigns, HasLoops, HaveLoops}
use Rattle.vl_check.specs.Bodies.{Setting, kind_is}
use Rattle.vl_check.specs.Rules.{is_clock, is_loop, names, sets, is_delay, is_task, is_pure, is_foreign, site_faults, sites_faults}
use Rattle.vl_check.specs.Headers.{is_constant, gives, is_one_of, is_wrong, loop_faults, loops_faults, items_faults}
use Rattle.vl_check.specs.Standing.{body_faults}
use Rattle.vl_accept.proofs.Clean.{left-none, right-none, not-stopped, or-left, or-both, loop-is, Clean, clean-left, clean-right, target-clean, call-clean}
use Rattle.vl_latch.specs.vl_base.proofs.Booleans.{not_false as not-not, and_left as and-left, and_right as and-right}

module _ (b : Setting) (rows : List d.Row) (same : (j : ℕ) → t.is_loop rows j ≡ kind_is is_loop (b.shared ++ b.own) j) where
  abbrev P : ℕ → Bool
  P = t.is_loop rows

  -- all of them are loop variables
  abbrev AreLoops : List ℕ → Type 0
  AreLoops ks = (j : ℕ) → is_one_of ks j ≡ true → P j ≡ true

  -- ---- headers

  header-is : (may : ℕ → Bool) → ((j : ℕ) → may j ≡ true → P j ≡ true) → (x : p.Exp) → is_constant may x ≡ true → IsHeader rows (plain.exp x)
  header-is may h (p.Num at v w signed) c = tt
  header-is may h (p.Label at v care w signed) c = tt
  header-is may h (p.Sig at j) c = h j c
  header-is may h (p.Un at op a) c = header-is may h a c
  header-is may h (p.Bin at op x y) c = (header-is may h x (and-left _ _ c), header-is may h y (and-right (is_constant may x) _ c))
  header-is may h (p.Cond at z x y) c =
      (header-is may h z (and-left _ _ c), header-is may h x (and-left _ _ (and-right (is_constant may z) _ c)), header-is may h y (and-right (is_constant may x) _ (and-right (is_constant may z) _ c)))
  header-is may h (p.Word at m a) c = let z : ⊥ = cc in absurd z
  header-is may h (p.Pick at x i from w) c = let z : ⊥ = cc in absurd z
  header-is may h (p.Slice at x low w) c = let z : ⊥ = cc in absurd z
  header-is may h (p.Cat at es) c = let z : ⊥ = cc in absurd z
  header-is may h (p.Rep at n es) c = let z : ⊥ = cc in absurd z
  header-is may h (p.Cast at signed a) c = let z : ⊥ = cc in absurd z
  header-is may h (p.Call at g es) c = let z : ⊥ = cc in absurd z
  header-is may h (p.Time at) c = let z : ⊥ = cc in absurd z
  header-is may h (p.Sys at name given) c = let z : ⊥ = cc in absurd z

  uncalled : (path : List ℕ) (x : p.Exp) (a : d.Stm) → IsHeader rows (plain.exp x) → plain.called_first path x a ≡ a
  uncalled path (p.Sys at name given) a h = absurd h
  uncalled path (p.Un o u.LogNot (p.Sys at name given)) a h = absurd h
  uncalled path x a h = refl

  assigns : (may : ℕ → Bool) → ((j : ℕ) → may j ≡ true → P j ≡ true) → (path : List ℕ) (k : ℕ) (a : p.Stm) → gives k may a ≡ true → Assigns rows k (plain.stm path a)
  assigns may h path k (p.Set at (p.Whole q j) x) c =
      let header = header-is may h x (and-right (j == k) _ c) in
      record {
        source = plain.exp x;
        whole = uncalled path x (d.Set (d.Whole j) (plain.exp x)) header ∙ ap (λ z. d.Set (d.Whole z) (plain.exp x)) (eqb-true j k (and-left _ _ c));
        header = header;
      }
  assigns may h path k (p.Set at (p.WordAt q m e) x) c = let z : ⊥ = cc in absurd z
  assigns may h path k (p.Set at (p.PickAt q e i from w) x) c = let z : ⊥ = cc in absurd z
  assigns may h path k (p.Set at (p.SliceAt q e low w) x) c = let z : ⊥ = cc in absurd z
  assigns may h path k (p.Set at (p.Several q ts) x) c = let z : ⊥ = cc in absurd z
  assigns may h path k (p.Nop at) c = let z : ⊥ = cc in absurd z
  assigns may h path k (p.Seq at as') c = let z : ⊥ = cc in absurd z
  assigns may h path k (p.If at e x y) c = let z : ⊥ = cc in absurd z
  assigns may h path k (p.Case at x is wild) c = let z : ⊥ = cc in absurd z
  assigns may h path k (p.For at j start test step x) c = let z : ⊥ = cc in absurd z
  assigns may h path k (p.Repeat at n x) c = let z : ⊥ = cc in absurd z
  assigns may h path k (p.Later at e x) c = let z : ⊥ = cc in absurd z
  assigns may h path k (p.Task at name given) c = let z : ⊥ = cc in absurd z

  -- ---- calls that come first

  called : (path : List ℕ) (x : p.Exp) (a : d.Stm) → Clean P (s.exp_sites x) → HasLoops rows a → HasLoops rows (plain.called_first path x a)
  called path (p.Sys at name given) a c h = (call-clean P path name given c, h)
  called path (p.Un o u.LogNot (p.Sys at name given)) a c h = (call-clean P path name given c, h)
  called path x a c h = h

  -- ---- loops

  one-of-more : (around : List ℕ) (k j : ℕ) → is_one_of (around ++ (k ∷ [])) j ≡ (is_one_of around j || ((k == j) || false))
  one-of-more around k j = list_any-append (λ i. i == j) around (k ∷ [])

  more : (around : List ℕ) (k : ℕ) → AreLoops around → P k ≡ true → AreLoops (around ++ (k ∷ []))
  more around k h l j o = by (is_one_of around j) (k == j) refl refl (sym (one-of-more around k j) ∙ o)
    where
      by : (x y : Bool) → is_one_of around j ≡ x → (k == j) ≡ y → (x || (y || false)) ≡ true → P j ≡ true
      by true y e g o = h j e
      by false true e g o = ap P (sym (eqb-true k j g)) ∙ l
      by false false e g o = let z : ⊥ = cc in absurd z

  mutual
    pub looped : (path around : List ℕ) (a : p.Stm) → AreLoops around → loop_faults b around a ≡ [] → Clean P (s.sites a) → HasLoops rows (plain.stm path a)
    looped path around (p.Nop at) l f c = tt
    looped path around (p.Seq at as') l f c = all-looped path around as' l f c
    looped path around (p.If at e x y) l f c =
        let rest = clean-right P (s.exp_sites e) (s.sites x ++ s.sites y) c in
        called path e (d.If (plain.exp e) (plain.stm path x) (plain.stm path y)) (clean-left P (s.exp_sites e) (s.sites x ++ s.sites y) c)
        (looped path around x l (left-none _ _ f) (clean-left P (s.sites x) (s.sites y) rest), looped path around y l (right-none (loop_faults b around x) _ f) (clean-right P (s.sites x) (s.sites y) rest))
    looped path around (p.Case at x is wild) l f c = items-looped path around is l f (clean-right P (s.exp_sites x) (s.items_sites is) c)
    looped path around (p.For at k start test step a) l f c =
        let wrong = not-stopped (is_wrong b around (p.For at k start test step a)) at 21 (left-none _ _ f) in
        let well = not-not _ (or-left _ _ wrong) in
        let kind : P k ≡ true = same k ∙ and-left _ _ well in
        let header = and-right (not (is_one_of around k)) _ (and-right (kind_is is_loop (b.shared ++ b.own) k) _ well) in
        let start_gives = and-left _ _ header in
        let others = and-right (gives k (is_one_of around) start) _ header in
        let within = more around k l kind in
        let test_sites = clean-right P (s.head_sites k start (s.sites start)) (s.exp_sites test ++ (s.head_sites k step (s.sites step) ++ s.sites a)) c in
        let body = clean-right P (s.head_sites k step (s.sites step)) (s.sites a) (clean-right P (s.exp_sites test) (s.head_sites k step (s.sites step) ++ s.sites a) test_sites) in (
          kind,
          assigns (is_one_of around) l path k start start_gives,
          header-is (is_one_of (around ++ (k ∷ []))) within test (and-left _ _ others),
          assigns (is_one_of (around ++ (k ∷ []))) within path k step (and-right (is_constant (is_one_of (around ++ (k ∷ []))) test) _ others),
          looped path (around ++ (k ∷ [])) a within (right-none (construct_if (is_wrong b around (p.For at k start test step a)) at 21) _ f) body,
        )
    looped path around (p.Repeat at n a) l f c = looped path around a l f c
    looped path around (p.Set at e x) l f c =
        called path x (d.Set (plain.target e) (plain.exp x)) (clean-right P (s.target_sites false e) (s.exp_sites x) c) (target-clean P false e (clean-left P (s.target_sites false e) (s.exp_sites x) c))
    looped path around (p.Later at e x) l f c =
        called path x (d.Later (plain.target e) (plain.exp x)) (clean-right P (s.target_sites true e) (s.exp_sites x) c) (target-clean P true e (clean-left P (s.target_sites true e) (s.exp_sites x) c))
    looped path around (p.Task at name given) l f c = call-clean P path name given c

    all-looped : (path around : List ℕ) (as' : p.Stms) → AreLoops around → loops_faults b around as' ≡ [] → Clean P (s.all_sites as') → HasLoops rows (plain.stms path as')
    all-looped path around p.NoStms l f c = tt
    all-looped path around (p.MoreStms a as') l f c =
        (looped path around a l (left-none _ _ f) (clean-left P (s.sites a) (s.all_sites as') c), all-looped path around as' l (right-none (loop_faults b around a) _ f) (clean-right P (s.sites a) (s.all_sites as') c))

    items-looped : (path around : List ℕ) (is : p.Items) → AreLoops around → items_faults b around is ≡ [] → Clean P (s.items_sites is) → HaveLoops rows (plain.items path is)
    items-looped path around p.NoItems l f c = tt
    items-looped path around (p.MoreItems p.NoExps a others) l f c =
        (looped path around a l (left-none _ _ f) (clean-left P (s.sites a) (s.items_sites others) c), items-looped path around others l (right-none (loop_faults b around a) _ f) (clean-right P (s.sites a) (s.items_sites others) c))
    items-looped path around (p.MoreItems (p.MoreExps e es) a others) l f c =
        let rest = clean-right P (s.exps_sites (p.MoreExps e es)) (s.sites a ++ s.items_sites others) c in
        (looped path around a l (left-none _ _ f) (clean-left P (s.sites a) (s.items_sites others) rest), items-looped path around others l (right-none (loop_faults b around a) _ f) (clean-right P (s.sites a) (s.items_sites others) rest))

-- ---- bodies without faults

sets-same : (P Q : ℕ → Bool) → ((j : ℕ) → P j ≡ Q j) → (w : s.What) → sets P w ≡ sets Q w
sets-same P Q h (s.Sets j word later) = h j
sets-same P Q h (s.Reads j) = refl
sets-same P Q h (s.Heads j) = refl
sets-same P Q h (s.Calls g) = refl
sets-same P Q h s.Delays = refl
sets-same P Q h (s.Tasks name given) = refl

-- no loop variable is assigned at sites without faults
site-clean : (b : Setting) (x : s.Site) → site_faults b x ≡ [] → sets (kind_is is_loop (b.shared ++ b.own)) x.what ≡ false
site-clean b x h =
    not-stopped (sets (kind_is is_loop (b.shared ++ b.own)) x.what) x.at 21
    (left-none _ _ (right-none (construct_if (is_foreign b.role b.shared x.what) x.at 20) _
    (right-none (construct_if (is_pure b.role && is_task x.what) x.at 18) _
    (right-none (construct_if (is_pure b.role && is_delay x.what) x.at 17) _
    (right-none (construct_if (names (kind_is is_clock b.shared) x.what) x.at 15) _ h)))))

sites-clean : (b : Setting) (P : ℕ → Bool) → ((j : ℕ) → P j ≡ kind_is is_loop (b.shared ++ b.own) j) → (xs : List s.Site) → flat_map (site_faults b) xs ≡ [] → Clean P xs
sites-clean b P same [] h = refl
sites-clean b P same (x ∷ xs) h =
    or-both (sets P x.what) (list_any (λ x. sets P x.what) xs)
    (sets-same P (kind_is is_loop (b.shared ++ b.own)) same x.what ∙ site-clean b x (left-none (site_faults b x) (flat_map (site_faults b) xs) h))
    (sites-clean b P same xs (right-none (site_faults b x) (flat_map (site_faults b) xs) h))

pub body-looped : (b : Setting) (path : List ℕ) (a : p.Stm) → body_faults b a ≡ [] → HasLoops (map row_of b.shared ++ map row_of b.own) (plain.stm path a)
body-looped b path a h =
    looped b (map row_of b.shared ++ map row_of b.own) (loop-is b.shared b.own) path [] a (λ j o. let z : ⊥ = cc in absurd z)
    (right-none (sites_faults b a) (loop_faults b [] a) h)
    (sites-clean b (t.is_loop (map row_of b.shared ++ map row_of b.own)) (loop-is b.shared b.own) (s.sites a) (left-none (sites_faults b a) (loop_faults b [] a) h))
