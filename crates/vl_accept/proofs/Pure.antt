-- A combinational process without faults, with its loops unrolled, only tests and assigns at once to signals of one word.
use Rattle.std.proofs.Common.{◌≡◌, ℕ, zero, suc, nat_lt, Bool, true, false, List, [], ◌∷◌, map, length, refl, sym, ◌∙◌}
use Rattle.std.specs.Prelude.{◌++◌, ◌||◌, ⊤, replicate}
use Rattle.std.specs.List.{list_any}
use Rattle.std.proofs.lemmas.List.Folds.{list_any-append}
use Rattle.vl_latch.specs.vl_base.specs.declared.bits.UnOp.TheVariants as u
use Rattle.vl_check.specs.vl_design.specs.declared.design.Signal.{Signal}
use Rattle.vl_check.specs.vl_design.specs.declared.design.SigKind.{SigKind}
use Rattle.vl_check.specs.vl_design.specs.declared.design.SigKind.TheVariants as k
use Rattle.vl_check.specs.vl_design.specs.Rows.{row_of, word_count}
use Rattle.vl_check.specs.vl_design.specs.Syntax as d
use Rattle.vl_check.specs.vl_design.specs.Width.{Names, Scope}
use Rattle.vl_check.specs.vl_design.specs.Value.{words_of}
use Rattle.vl_check.specs.vl_design.specs.State.{State}
use Rattle.vl_check.specs.vl_design.specs.Exec.{exec, asks, goes_on, most_turns}
use Rattle.vl_check.specs.vl_design.specs.Functions.{zeros}
use Rattle.vl_check.specs.vl_design.specs.Nodes.{has, some_have, target_has, targets_have, items_have}
use Rattle.vl_check.specs.vl_design.specs.Reads.{is_timed, stm_timed}
use Rattle.vl_check.specs.vl_design.specs.Laws.{IsUnrolledStm, AreUnrolledItems, can_act, items_can_act}
use Rattle.vl_check.specs.vl_design.specs.Sound.{HasValue, IsSignal, IsSoundTarget, AreSoundTargets, IsSoundBase, IsSoundStm, AreSoundItems}
use Rattle.vl_check.specs.vl_design.specs.Placed as p
use Rattle.vl_check.specs.vl_design.specs.Plainly as plain
use Rattle.vl_check.specs.vl_design.proofs.Unread.{or_false}
use Rattle.vl_check.specs.vl_sites.specs.Sites as s
use Rattle.vl_unroll.specs.vl_loops.specs.Unroll.{is_loop, signal_put, put, puts, put_target, put_targets, unrolled, unrolled_items, in_turns, so_many}
use Rattle.vl_runs.specs.vl_paths.specs.Nets.{IsBase, IsPlain, ArePlain, IsNetStm, AreNetItems}
use Rattle.vl_check.specs.Rules.{is_delay, is_task, sets_word}
use Rattle.vl_accept.proofs.Clean.{or-left, or-right, or-both}

-- ---- sites at which nothing passes a test

module _ (Q : s.What → Bool) where
  abbrev pub Free : List s.Site → Type 0
  Free xs = list_any (λ x. Q x.what) xs ≡ false

  pub free-left : (xs ys : List s.Site) → Free (xs ++ ys) → Free xs
  free-left xs ys h = or-left (list_any (λ x. Q x.what) xs) (list_any (λ x. Q x.what) ys) (sym (list_any-append (λ x. Q x.what) xs ys) ∙ h)

  pub free-right : (xs ys : List s.Site) → Free (xs ++ ys) → Free ys
  free-right xs ys h = or-right (list_any (λ x. Q x.what) xs) (list_any (λ x. Q x.what) ys) (sym (list_any-append (λ x. Q x.what) xs ys) ∙ h)

-- a nonblocking assignment, a system task, or a write of a memory's word
abbrev pub is_impure : s.What → Bool
is_impure w = is_delay w || (is_task w || sets_word (λ later. true) w)

abbrev pub IsFree : List s.Site → Type 0
IsFree xs = Free is_impure xs

impossible : true ≡ false → ⊥
impossible h = cc

-- ---- statements of combinational processes, with their loops: of a loop only its body is asked

abbrev timed : d.Exp → Bool
timed e = has is_timed e

abbrev mutual
  pub NoWords : d.Target → Type 0
  NoWords (d.Whole k) = ⊤
  NoWords (d.WordAt m a) = ⊥
  NoWords (d.PickAt b i from w) = NoWords b
  NoWords (d.SliceAt b low w) = NoWords b
  NoWords (d.Several ts) = NoWordsIn ts

  pub NoWordsIn : d.Targets → Type 0
  NoWordsIn d.NoTargets = ⊤
  NoWordsIn (d.MoreTargets t ts) = NoWords t × NoWordsIn ts

abbrev mutual
  pub IsPure : d.Stm → Type 0
  IsPure d.Nop = ⊤
  IsPure (d.Then a b) = IsPure a × IsPure b
  IsPure (d.If t a b) = (timed t ≡ false) × IsPure a × IsPure b
  IsPure (d.Case e items) = (timed e ≡ false) × ArePure items
  IsPure (d.For k start test step a) = IsPure a
  IsPure (d.Repeat n a) = IsPure a
  IsPure (d.Set t e) = NoWords t × (target_has is_timed t ≡ false) × (timed e ≡ false)
  IsPure (d.Later t e) = ⊥
  IsPure (d.Sys task) = ⊥

  pub ArePure : d.Items → Type 0
  ArePure d.NoItems = ⊤
  ArePure (d.Labelled es a others) = (some_have is_timed es ≡ false) × IsPure a × ArePure others
  ArePure (d.Default a others) = IsPure a × ArePure others

mutual
  no_words : (t : p.Target) → IsFree (s.target_sites false t) → NoWords (plain.target t)
  no_words (p.Whole at k) h = tt
  no_words (p.WordAt at m a) h = let z : ⊥ = cc in absurd z
  no_words (p.PickAt at b i from w) h = no_words b (free-left is_impure (s.target_sites false b) (s.exp_sites i) h)
  no_words (p.SliceAt at b low w) h = no_words b h
  no_words (p.Several at ts) h = no_words_in ts h

  no_words_in : (ts : p.Targets) → IsFree (s.targets_sites false ts) → NoWordsIn (plain.targets ts)
  no_words_in p.NoTargets h = tt
  no_words_in (p.MoreTargets t ts) h = (no_words t (free-left is_impure (s.target_sites false t) (s.targets_sites false ts) h), no_words_in ts (free-right is_impure (s.target_sites false t) (s.targets_sites false ts) h))

module _ (path : List ℕ) where
  set_pure : (t : d.Target) (x : p.Exp) → NoWords t → stm_timed (plain.called_first path x (d.Set t (plain.exp x))) ≡ false → IsPure (plain.called_first path x (d.Set t (plain.exp x)))
  set_pure t (p.Sys at name given) n h = absurd (impossible (or-right (target_has is_timed t) true (or-right _ _ h)))
  set_pure t (p.Un o u.LogNot (p.Sys at name given)) n h = absurd (impossible (or-right (target_has is_timed t) true (or-right _ _ h)))
  set_pure t x n h = let g = or_false (target_has is_timed t) (timed (plain.exp x)) h in (n, g.0, g.1)

  if_pure : (x : p.Exp) (a b : d.Stm) → (stm_timed a ≡ false → IsPure a) → (stm_timed b ≡ false → IsPure b) → stm_timed (plain.called_first path x (d.If (plain.exp x) a b)) ≡ false → IsPure (plain.called_first path x (d.If (plain.exp x) a b))
  if_pure (p.Sys at name given) a b f g h = absurd (impossible (or-right _ _ h))
  if_pure (p.Un o u.LogNot (p.Sys at name given)) a b f g h = absurd (impossible (or-right _ _ h))
  if_pure x a b f g h =
      let e = or_false (timed (plain.exp x)) (stm_timed a || stm_timed b) h in
      let i = or_false (stm_timed a) (stm_timed b) e.1 in
      (e.0, f i.0, g i.1)

  item_pure : (es : p.Exps) (a : d.Stm) (others : d.Items) → (stm_timed a ≡ false → IsPure a) → (items_have is_timed (λ task. false) others ≡ false → ArePure others) →
      items_have is_timed (λ task. false) (plain.item es a others) ≡ false → ArePure (plain.item es a others)
  item_pure p.NoExps a others f g h = let i = or_false (stm_timed a) (items_have is_timed (λ task. false) others) h in (f i.0, g i.1)
  item_pure (p.MoreExps x es) a others f g h =
      let e = or_false (some_have is_timed (plain.exps (p.MoreExps x es))) (stm_timed a || items_have is_timed (λ task. false) others) h in
      let i = or_false (stm_timed a) (items_have is_timed (λ task. false) others) e.1 in
      (e.0, f i.0, g i.1)

  mutual
    pub pure : (a : p.Stm) → IsFree (s.sites a) → stm_timed (plain.stm path a) ≡ false → IsPure (plain.stm path a)
    pure (p.Nop at) c h = tt
    pure (p.Seq at as') c h = all_pure as' c h
    pure (p.If at t x y) c h =
        let rest = free-right is_impure (s.exp_sites t) (s.sites x ++ s.sites y) c in
        if_pure t (plain.stm path x) (plain.stm path y) (λ g. pure x (free-left is_impure (s.sites x) (s.sites y) rest) g) (λ g. pure y (free-right is_impure (s.sites x) (s.sites y) rest) g) h
    pure (p.Case at x is wild) c h =
        let g = or_false (timed (plain.exp x)) (items_have is_timed (λ task. false) (plain.items path is)) h in
        (g.0, items_pure is (free-right is_impure (s.exp_sites x) (s.items_sites is) c) g.1)
    pure (p.For at k start test step a) c h =
        let rest = free-right is_impure (s.head_sites k start (s.sites start)) (s.exp_sites test ++ (s.head_sites k step (s.sites step) ++ s.sites a)) c in
        let body = free-right is_impure (s.head_sites k step (s.sites step)) (s.sites a) (free-right is_impure (s.exp_sites test) (s.head_sites k step (s.sites step) ++ s.sites a) rest) in
        let g = or_false (stm_timed (plain.stm path start)) (timed (plain.exp test) || (stm_timed (plain.stm path step) || stm_timed (plain.stm path a))) h in
        let f = or_false (timed (plain.exp test)) (stm_timed (plain.stm path step) || stm_timed (plain.stm path a)) g.1 in
        pure a body (or_false (stm_timed (plain.stm path step)) (stm_timed (plain.stm path a)) f.1).1
    pure (p.Repeat at n a) c h = pure a c h
    pure (p.Set at t x) c h = set_pure (plain.target t) x (no_words t (free-left is_impure (s.target_sites false t) (s.exp_sites x) c)) h
    pure (p.Later at t x) c h = let z : ⊥ = cc in absurd z
    pure (p.Task at name given) c h = let z : ⊥ = cc in absurd z

    all_pure : (as' : p.Stms) → IsFree (s.all_sites as') → stm_timed (plain.stms path as') ≡ false → IsPure (plain.stms path as')
    all_pure p.NoStms c h = tt
    all_pure (p.MoreStms a as') c h =
        let g = or_false (stm_timed (plain.stm path a)) (stm_timed (plain.stms path as')) h in
        (pure a (free-left is_impure (s.sites a) (s.all_sites as') c) g.0, all_pure as' (free-right is_impure (s.sites a) (s.all_sites as') c) g.1)

    items_pure : (is : p.Items) → IsFree (s.items_sites is) → items_have is_timed (λ task. false) (plain.items path is) ≡ false → ArePure (plain.items path is)
    items_pure p.NoItems c h = tt
    items_pure (p.MoreItems es a others) c h =
        let rest = free-right is_impure (s.exps_sites es) (s.sites a ++ s.items_sites others) c in
        item_pure es (plain.stm path a) (plain.items path others) (λ g. pure a (free-left is_impure (s.sites a) (s.items_sites others) rest) g)
        (λ g. items_pure others (free-right is_impure (s.sites a) (s.items_sites others) rest) g) h

-- ---- with loops unrolled

module _ (rows : List d.Row) (at : List (List ℕ)) where
  loop_timed : (b : Bool) (j : ℕ) → timed (signal_put rows at b j) ≡ false
  loop_timed true j = refl
  loop_timed false j = refl

  mutual
    put_timed : (e : d.Exp) → timed (put rows at e) ≡ timed e
    put_timed (d.Num v w signed) = refl
    put_timed (d.Label v care w signed) = refl
    put_timed (d.Sig j) = loop_timed (is_loop rows j) j
    put_timed (d.Word m a) = put_timed a
    put_timed (d.Pick b i from w) = rw (put_timed b, put_timed i) refl
    put_timed (d.Slice b low w) = put_timed b
    put_timed (d.Un op a) = put_timed a
    put_timed (d.Bin op a b) = rw (put_timed a, put_timed b) refl
    put_timed (d.Cond t a b) = rw (put_timed t, put_timed a, put_timed b) refl
    put_timed (d.Cat es) = puts_timed es
    put_timed (d.Rep n es) = puts_timed es
    put_timed (d.Cast signed a) = put_timed a
    put_timed (d.Call f es) = puts_timed es
    put_timed d.Time = refl
    put_timed d.LastAnswer = refl

    puts_timed : (es : d.Exps) → some_have is_timed (puts rows at es) ≡ some_have is_timed es
    puts_timed d.NoExps = refl
    puts_timed (d.MoreExps e es) = rw (put_timed e, puts_timed es) refl

  mutual
    target_timed : (t : d.Target) → target_has is_timed (put_target rows at t) ≡ target_has is_timed t
    target_timed (d.Whole k) = refl
    target_timed (d.WordAt m a) = put_timed a
    target_timed (d.PickAt b i from w) = rw (target_timed b, put_timed i) refl
    target_timed (d.SliceAt b low w) = target_timed b
    target_timed (d.Several ts) = targets_timed ts

    targets_timed : (ts : d.Targets) → targets_have is_timed (put_targets rows at ts) ≡ targets_have is_timed ts
    targets_timed d.NoTargets = refl
    targets_timed (d.MoreTargets t ts) = rw (target_timed t, targets_timed ts) refl

  mutual
    put_words : (t : d.Target) → NoWords t → NoWords (put_target rows at t)
    put_words (d.Whole k) n = tt
    put_words (d.WordAt m a) n = n
    put_words (d.PickAt b i from w) n = put_words b n
    put_words (d.SliceAt b low w) n = put_words b n
    put_words (d.Several ts) n = puts_words ts n

    puts_words : (ts : d.Targets) → NoWordsIn ts → NoWordsIn (put_targets rows at ts)
    puts_words d.NoTargets n = tt
    puts_words (d.MoreTargets t ts) n = (put_words t n.0, puts_words ts n.1)

turns_pure : {S : Type 0} (n : ℕ) (test : S → Bool) (step : S → S) (f : S → d.Stm) → ((x : S) → IsPure (f x)) → (x : S) → IsPure (in_turns n test step f x)
turns_pure zero test step f h x = tt
turns_pure (suc n) test step f h x = at (test x) (turns_pure n test step f h (step x))
  where
    at : (b : Bool) → IsPure (in_turns n test step f (step x)) → IsPure (elim b [ true ↦ d.Then (f x) (in_turns n test step f (step x)) | false ↦ d.Nop ])
    at true k = (h x, k)
    at false k = tt

many_pure : (n : ℕ) (a : d.Stm) → IsPure a → IsPure (so_many n a)
many_pure zero a h = tt
many_pure (suc n) a h = (h, many_pure n a h)

module _ (scope : Scope) where
  mutual
    pub unrolled_pure : (a : d.Stm) → IsPure a → (e : State) → IsPure (unrolled scope a e)
    unrolled_pure d.Nop h e = tt
    unrolled_pure (d.Then a b) h e = (unrolled_pure a h.0 e, unrolled_pure b h.1 e)
    unrolled_pure (d.If t a b) h e = (put_timed scope.names.rows e.values t ∙ h.0, unrolled_pure a h.1 e, unrolled_pure b h.2 e)
    unrolled_pure (d.Case x items) h e = (put_timed scope.names.rows e.values x ∙ h.0, items_unrolled_pure items h.1 e)
    unrolled_pure (d.For j start test step a) h e = turns_pure most_turns (goes_on scope test) (exec scope step) (unrolled scope a) (unrolled_pure a h) (exec scope start e)
    unrolled_pure (d.Repeat n a) h e = many_pure n (unrolled scope a e) (unrolled_pure a h e)
    unrolled_pure (d.Set t x) h e = (put_words scope.names.rows e.values t h.0, target_timed scope.names.rows e.values t ∙ h.1, put_timed scope.names.rows e.values x ∙ h.2)
    unrolled_pure (d.Later t x) h e = h
    unrolled_pure (d.Sys task) h e = absurd h

    items_unrolled_pure : (items : d.Items) → ArePure items → (e : State) → ArePure (unrolled_items scope items e)
    items_unrolled_pure d.NoItems h e = tt
    items_unrolled_pure (d.Labelled es a others) h e = (puts_timed scope.names.rows e.values es ∙ h.0, unrolled_pure a h.1 e, items_unrolled_pure others h.2 e)
    items_unrolled_pure (d.Default a others) h e = (unrolled_pure a h.0 e, items_unrolled_pure others h.1 e)

-- ---- what is pure and has no loops

asks_timed : (t : d.Exp) → timed t ≡ false → asks t ≡ false
asks_timed d.LastAnswer h = let z : ⊥ = cc in absurd z
asks_timed (d.Un op a) h = asks_timed a h
asks_timed (d.Num v w signed) h = refl
asks_timed (d.Label v care w signed) h = refl
asks_timed (d.Sig j) h = refl
asks_timed (d.Word m a) h = refl
asks_timed (d.Pick b i from w) h = refl
asks_timed (d.Slice b low w) h = refl
asks_timed (d.Bin op a b) h = refl
asks_timed (d.Cond t a b) h = refl
asks_timed (d.Cat es) h = refl
asks_timed (d.Rep n es) h = refl
asks_timed (d.Cast signed a) h = refl
asks_timed (d.Call f es) h = refl
asks_timed d.Time h = refl

mutual
  pub pure_quiet : (a : d.Stm) → IsPure a → IsUnrolledStm a → can_act a ≡ false
  pure_quiet d.Nop h n = refl
  pure_quiet (d.Then a b) h n = or-both _ _ (pure_quiet a h.0 n.0) (pure_quiet b h.1 n.1)
  pure_quiet (d.If t a b) h n = or-both _ _ (asks_timed t h.0) (or-both _ _ (pure_quiet a h.1 n.0) (pure_quiet b h.2 n.1))
  pure_quiet (d.Case e items) h n = pure_items_quiet items h.1 n
  pure_quiet (d.Set t e) h n = refl
  pure_quiet (d.For k start test step a) h n = absurd n
  pure_quiet (d.Repeat m a) h n = absurd n
  pure_quiet (d.Later t e) h n = absurd h
  pure_quiet (d.Sys task) h n = absurd h

  pure_items_quiet : (items : d.Items) → ArePure items → AreUnrolledItems items → items_can_act items ≡ false
  pure_items_quiet d.NoItems h n = refl
  pure_items_quiet (d.Labelled es a others) h n = or-both _ _ (pure_quiet a h.1 n.0) (pure_items_quiet others h.2 n.1)
  pure_items_quiet (d.Default a others) h n = or-both _ _ (pure_quiet a h.0 n.0) (pure_items_quiet others h.1 n.1)

mutual
  pub pure_timeless : (a : d.Stm) → IsPure a → IsUnrolledStm a → stm_timed a ≡ false
  pure_timeless d.Nop h n = refl
  pure_timeless (d.Then a b) h n = or-both _ _ (pure_timeless a h.0 n.0) (pure_timeless b h.1 n.1)
  pure_timeless (d.If t a b) h n = or-both _ _ h.0 (or-both _ _ (pure_timeless a h.1 n.0) (pure_timeless b h.2 n.1))
  pure_timeless (d.Case e items) h n = or-both _ _ h.0 (pure_items_timeless items h.1 n)
  pure_timeless (d.Set t e) h n = or-both _ _ h.1 h.2
  pure_timeless (d.For k start test step a) h n = absurd n
  pure_timeless (d.Repeat m a) h n = absurd n
  pure_timeless (d.Later t e) h n = absurd h
  pure_timeless (d.Sys task) h n = absurd h

  pure_items_timeless : (items : d.Items) → ArePure items → AreUnrolledItems items → items_have is_timed (λ task. false) items ≡ false
  pure_items_timeless d.NoItems h n = refl
  pure_items_timeless (d.Labelled es a others) h n = or-both _ _ h.0 (or-both _ _ (pure_timeless a h.1 n.0) (pure_items_timeless others h.2 n.1))
  pure_items_timeless (d.Default a others) h n = or-both _ _ (pure_timeless a h.0 n.0) (pure_items_timeless others h.1 n.1)

-- a signal that has a value has one word
pub one_word : (signals : List Signal) (j : ℕ) → (names : Names) → names.rows ≡ map row_of signals → IsSignal names j → nat_lt 1 (length (words_of (zeros (map row_of signals)) j)) ≡ false
one_word signals j names e h = at signals j (rw (← e) h)
  where
    at : (signals : List Signal) (j : ℕ) → IsSignal (record names { rows = map row_of signals }) j → nat_lt 1 (length (words_of (zeros (map row_of signals)) j)) ≡ false
    at [] j h = absurd h
    at (x ∷ xs) (suc j) h = at xs j h
    at (x ∷ xs) zero h = kind x.kind h.0
      where
        kind : (kind : SigKind) → HasValue kind → nat_lt 1 (length (replicate {A = ℕ} (word_count kind x.first x.last) 0)) ≡ false
        kind k.Net v = refl
        kind k.Var v = refl
        kind k.Comb v = refl
        kind k.Loop v = refl
        kind k.Clock v = refl
        kind k.Mem v = absurd v

module _ (names : Names) (is_mem : ℕ → Bool) (one : (j : ℕ) → IsSignal names j → is_mem j ≡ false) where
  base : (t : d.Target) → NoWords t → IsSoundBase names t → IsBase is_mem t
  base (d.Whole k) n h = one k h
  base (d.WordAt m a) n h = absurd n
  base (d.PickAt b i from w) n h = absurd h
  base (d.SliceAt b low w) n h = absurd h
  base (d.Several ts) n h = absurd h

  mutual
    target_plain : (t : d.Target) → NoWords t → IsSoundTarget names t → IsPlain is_mem t
    target_plain (d.Whole k) n h = one k h
    target_plain (d.WordAt m a) n h = absurd n
    target_plain (d.PickAt b i from w) n h = base b n h.1
    target_plain (d.SliceAt b low w) n h = base b n h.1
    target_plain (d.Several ts) n h = targets_plain ts n h.1

    targets_plain : (ts : d.Targets) → NoWordsIn ts → AreSoundTargets names ts → ArePlain is_mem ts
    targets_plain d.NoTargets n h = tt
    targets_plain (d.MoreTargets t ts) n h = (target_plain t n.0 h.0, targets_plain ts n.1 h.1)

  mutual
    pub pure_net : (a : d.Stm) → IsPure a → IsUnrolledStm a → IsSoundStm names a → IsNetStm is_mem a
    pure_net d.Nop h n w = tt
    pure_net (d.Then a b) h n w = (pure_net a h.0 n.0 w.0, pure_net b h.1 n.1 w.1)
    pure_net (d.If t a b) h n w = (pure_net a h.1 n.0 w.1, pure_net b h.2 n.1 w.2)
    pure_net (d.Case e items) h n w = pure_items items h.1 n w.1
    pure_net (d.Set t e) h n w = target_plain t h.0 w.0
    pure_net (d.For k start test step a) h n w = absurd n
    pure_net (d.Repeat m a) h n w = absurd n
    pure_net (d.Later t e) h n w = absurd h
    pure_net (d.Sys task) h n w = absurd h

    pure_items : (items : d.Items) → ArePure items → AreUnrolledItems items → AreSoundItems names items → AreNetItems is_mem items
    pure_items d.NoItems h n w = tt
    pure_items (d.Labelled es a others) h n w = (pure_net a h.1 n.0 w.1, pure_items others h.2 n.1 w.2)
    pure_items (d.Default a others) h n w = (pure_net a h.0 n.0 w.0, pure_items others h.1 n.1 w.1)
