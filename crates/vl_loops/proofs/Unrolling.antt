-- A statement with its loops unrolled does what the statement does.
use Rattle.std.proofs.Common.{◌≡◌, ℕ, zero, suc, Bool, true, false, List, ◌++◌, refl, sym, ap, ◌∙◌}
use Rattle.std.specs.Prelude.{◌||◌, ◌&&◌, ◌==◌, not, if◌then◌else◌}
use Rattle.vl_design.specs.declared.design.Form.{Form}
use Rattle.vl_design.specs.Syntax.{Exp, Label, Sig, Exps, NoExps, MoreExps, Stm, Nop, Then, If, Case, For, Repeat, Set, Later, Sys, Items, NoItems, Labelled, Default, Fun}
use Rattle.vl_design.specs.Width.{Scope, form, joined}
use Rattle.vl_design.specs.Value.{value}
use Rattle.vl_design.specs.State.{State, sample, counted}
use Rattle.vl_design.specs.Targets.{assignment}
use Rattle.vl_design.specs.Exec.{exec, exec_items, exec_default, labels_form, items_form, label_matches, some_match, asks, is_true, goes_on, holds, items_hold, turns, times, counted_if, most_turns}
use Rattle.vl_design.specs.Reads.{stm_writes}
use Rattle.vl_design.specs.Sound.{IsSoundExp, AreSound, IsSoundStm, AreSoundItems}
use Rattle.vl_design.proofs.Resting.{exec_over}
use Rattle.vl_loops.specs.Unroll.{is_loop, signal_put, put, puts, unrolled, unrolled_items, in_turns, so_many}
use Rattle.vl_loops.specs.Fits.{IsHeader, Assigns, HasLoops, HaveLoops, Same, Holds}
use Rattle.vl_loops.proofs.Funs.{with_funs, Alike}
use Rattle.vl_loops.proofs.Putting.{form_put}
use Rattle.vl_loops.proofs.Stepping.{put_form, put_value, assignment_put, updates_agree, done_same, counted_same, finished_same, plain_holds}
use Rattle.vl_loops.proofs.Heading.{Beside, set_alive, later_alive, sys_alive, goes_same, header_same, header_holds, header_beside, restored_same, restored_holds}
use Rattle.vl_loops.proofs.Holding.{asks_put, holds_same, items_same}
use Rattle.vl_design.proofs.Shared.{stays as turns_end}

goes_not : (scope : Scope) (test : Exp) (s : State) → s.finished ≡ true → goes_on scope test s ≡ false
goes_not scope test s h = rw h refl

module _ (scope : Scope) (funs : List Fun) (call : ℕ → List ℕ → ℕ) (al : Alike scope funs call) where
  abbrev next : Scope
  next = with_funs scope funs call

  -- t is s but for the loop variables, which have in s the values that they have in e
  pub record Good (e s t : State) : Type 0 where
    pub same : Same scope.names.rows s t
    pub holds : Holds scope.names.rows e s

  abbrev pub Both : State → Stm → State → State → Type 0
  Both e a s t = Good e (exec scope a s) (exec next (unrolled scope a e) t)

  alive : (s t : State) → Same scope.names.rows s t → s.finished ≡ false → t.finished ≡ false
  alive s t a f = sym (finished_same scope funs call al s t a) ∙ f

  -- once finished, nothing is done
  whole : (a : Stm) (e s t : State) → Good e s t → (s.finished ≡ false → Both e a s t) → Both e a s t
  whole a e s t g f = at (s.finished) refl
    where
      at : (b : Bool) → s.finished ≡ b → Both e a s t
      at false h = f h
      at true h = let k : t.finished ≡ true = sym (finished_same scope funs call al s t g.same) ∙ h in
          rw (exec_over scope a s h, exec_over next (unrolled scope a e) t k) g

  choose : (b : Bool) (e s t u v : State) → Good e s t → Good e u v → Good e (if b then s else u) (if b then t else v)
  choose true e s t u v g h = g
  choose false e s t u v g h = h

  counted_good : (b : Bool) (e s t : State) → s.finished ≡ false → Good e s t → Good e (counted_if b s) (counted_if b t)
  counted_good b e s t f g =
      let k : t.finished ≡ false = sym (finished_same scope funs call al s t g.same) ∙ f in
      let one : Good e (counted s) (counted t) = record { same = counted_same scope funs call al s t g.same; holds = record { loops = g.holds.loops; size = g.holds.size; alive = g.holds.alive } } in
      at (b && not s.finished) (b && not t.finished) (ap (λ z. b && not z) (f ∙ sym k)) one
    where
      at : (c d : Bool) → c ≡ d → Good e (counted s) (counted t) → Good e (if c then counted s else s) (if d then counted t else t)
      at true true z h = h
      at false false z h = g
      at true false z h = let y : ⊥ = cc in absurd y
      at false true z h = let y : ⊥ = cc in absurd y

  -- ---- loops

  times_good : (a : Stm) (e : State) → ((s t : State) → Good e s t → Both e a s t) → (n : ℕ) (s t : State) → Good e s t → Good e (times n (exec scope a) s) (exec next (so_many n (unrolled scope a e)) t)
  times_good a e body zero s t g = g
  times_good a e body (suc n) s t g = times_good a e body n (exec scope a s) (exec next (unrolled scope a e) t) (body s t g)

  record Done (j : ℕ) (e s t : State) : Type 0 where
    pub same : Same scope.names.rows s t
    pub beside : Beside scope j e s

  beside_of : (j : ℕ) (e x s : State) → Beside scope j e x → Holds scope.names.rows x s → Beside scope j e s
  beside_of j e x s b h = record { loops = λ i m d. h.loops i m ∙ b.loops i m d; size = h.size ∙ b.size }

  module _ (j : ℕ) (m : is_loop scope.names.rows j ≡ true) (test : Exp) (step a : Stm) (k : IsHeader scope.names.rows test) (l : Assigns scope.names.rows j step)
      (body : (e s t : State) → Good e s t → Both e a s t) (e : State) where
    abbrev turn : State → State
    turn z = exec scope step (exec scope a z)

    abbrev rest : ℕ → State → Stm
    rest n x = in_turns n (goes_on scope test) (exec scope step) (unrolled scope a) x

    one_turn : (b c : Bool) → c ≡ b → (n : ℕ) (x s t : State) → Done j e (turns n (goes_on scope test) turn (turn s)) (exec next (rest n (exec scope step x)) (exec next (unrolled scope a x) t)) → Done j e s t →
        Done j e (elim c [ true ↦ turns n (goes_on scope test) turn (turn s) | false ↦ s ])
        (exec next (elim b [ true ↦ Then (unrolled scope a x) (rest n (exec scope step x)) | false ↦ Nop ]) t)
    one_turn true true z n x s t f g = f
    one_turn false false z n x s t f g = g
    one_turn true false z n x s t f g = let y : ⊥ = cc in absurd y
    one_turn false true z n x s t f g = let y : ⊥ = cc in absurd y

    done_over : (s2 s1 t2 t1 : State) → s2 ≡ s1 → t2 ≡ t1 → Done j e s1 t1 → Done j e s2 t2
    done_over s2 s1 t2 t1 f g h = rw (f, g) h

    abbrev Goes : ℕ → Type 0
    Goes n = (y u v : State) → Beside scope j e y → Good y u v → Done j e (turns n (goes_on scope test) turn u) (exec next (rest n y) v)

    turns_good : (n : ℕ) (x s t : State) → Beside scope j e x → Good x s t → Done j e (turns n (goes_on scope test) turn s) (exec next (rest n x) t)
    turns_good zero x s t b g = record { same = g.same; beside = beside_of j e x s b g.holds }
    turns_good (suc n) x s t b g = at (λ y u v c h. turns_good n y u v c h) s.finished refl
      where
        here : Done j e s t
        here = record { same = g.same; beside = beside_of j e x s b g.holds }

        -- behind the body
        behind : Goes n → (u v : State) → Good x u v → (c : Bool) → u.finished ≡ c → Done j e (turns n (goes_on scope test) turn (exec scope step u)) (exec next (rest n (exec scope step x)) v)
        behind go u v h false f = go (exec scope step x) (exec scope step u) v (header_beside scope j step l e x g.holds.alive b)
            (record { same = header_same scope j step l m u v f h.same; holds = header_holds scope j step l x u f h.holds })
        behind go u v h true f =
            let e0 = exec_over scope step u f in
            let e2 = ap (turns n (goes_on scope test) turn) e0 ∙ turns_end n (goes_on scope test) turn u (goes_not scope test u f) in
            let w : v.finished ≡ true = sym (finished_same scope funs call al u v h.same) ∙ f in
            done_over _ u _ v e2 (exec_over next (rest n (exec scope step x)) v w) (record { same = h.same; beside = beside_of j e x u b h.holds })

        at : Goes n → (c : Bool) → s.finished ≡ c → Done j e (turns (suc n) (goes_on scope test) turn s) (exec next (rest (suc n) x) t)
        at go false f = one_turn (goes_on scope test x) (goes_on scope test s) (goes_same scope x s g.holds f test k) n x s t
            (behind go (exec scope a s) (exec next (unrolled scope a x) t) (body x s t g) _ refl) here
        at go true f =
            let w : t.finished ≡ true = sym (finished_same scope funs call al s t g.same) ∙ f in
            done_over _ s _ t (turns_end (suc n) (goes_on scope test) turn s (goes_not scope test s f)) (exec_over next (rest (suc n) x) t w) here

  -- ---- cases

  module _ (at : List (List ℕ)) where
    labels_form_put : (c : Form) (es : Exps) → labels_form next.names c (puts scope.names.rows at es) ≡ labels_form scope.names c es
    labels_form_put c NoExps = refl
    labels_form_put c (MoreExps x es) = ap (λ z. labels_form next.names (joined c z) (puts scope.names.rows at es)) (form_put scope funs call al at x) ∙ labels_form_put (joined c (form scope.names x)) es

  items_form_put : (e : State) (c : Form) (items : Items) → items_form next.names c (unrolled_items scope items e) ≡ items_form scope.names c items
  items_form_put e c NoItems = refl
  items_form_put e c (Labelled es a others) = ap (λ z. items_form next.names z (unrolled_items scope others e)) (labels_form_put e.values c es) ∙ items_form_put e (labels_form scope.names c es) others
  items_form_put e c (Default a others) = items_form_put e c others

  module _ (e s t : State) (g : Good e s t) (c : Form) (v : ℕ) where
    abbrev putting : Exp → Exp
    putting = put scope.names.rows e.values

    same_value : (x : Exp) → IsSoundExp scope.names x → value next (sample t) (putting x) c ≡ value scope (sample s) x c
    same_value x k = put_value scope funs call al e s t g.same g.holds x k c

    signal_match : (b : Bool) (j : ℕ) → label_matches next (sample t) c v (signal_put scope.names.rows e.values b j) ≡ (value next (sample t) (signal_put scope.names.rows e.values b j) c == v)
    signal_match true j = refl
    signal_match false j = refl

    match_put : (x : Exp) → IsSoundExp scope.names x → label_matches next (sample t) c v (putting x) ≡ label_matches scope (sample s) c v x
    match_put (Label l care w signed) k = refl
    match_put (Sig j) k = signal_match (is_loop scope.names.rows j) j ∙ ap (λ z. z == v) (same_value (Sig j) k)
    match_put x k = ap (λ z. z == v) (same_value x k)

    some_match_put : (es : Exps) → AreSound scope.names es → some_match next (sample t) c v (puts scope.names.rows e.values es) ≡ some_match scope (sample s) c v es
    some_match_put NoExps k = refl
    some_match_put (MoreExps x es) k = rw (match_put x k.0, some_match_put es k.1) refl

  -- ---- statements

  set_good : (a : Stm) (e s t : State) → stm_writes (is_loop scope.names.rows) a ≡ false → Good e s t → Same scope.names.rows (exec scope a s) (exec next (unrolled scope a e) t) → Both e a s t
  set_good a e s t w g f = record { same = f; holds = plain_holds scope a w e s g.holds }

  mutual
    pub exec_good : (a : Stm) → IsSoundStm scope.names a → HasLoops scope.names.rows a → (e s t : State) → Good e s t → s.finished ≡ false → Both e a s t
    exec_good Nop k l e s t g f = g
    exec_good (Then a b) k l e s t g f =
        let s1 = exec scope a s in
        let t1 = exec next (unrolled scope a e) t in
        let h = exec_good a k.0 l.0 e s t g f in
        whole b e s1 t1 h (λ z. exec_good b k.1 l.1 e s1 t1 h z)
    exec_good (If u a b) k l e s t g f =
        let w : (asks (put scope.names.rows e.values u) || (holds next t (unrolled scope a e) || holds next t (unrolled scope b e))) ≡ (asks u || (holds scope s a || holds scope s b))
        = rw (asks_put scope.names.rows e.values u, holds_same scope next a l.0 e s t g.holds f, holds_same scope next b l.1 e s t g.holds f) refl in
        let y : is_true next (put scope.names.rows e.values u) t ≡ is_true scope u s
        = rw (put_form scope funs call al e s t g.same g.holds u, put_value scope funs call al e s t g.same g.holds u k.0 (form scope.names u)) refl in
        let h = counted_good (asks u || (holds scope s a || holds scope s b)) e s t f g in
        rw (w, y) (choose (is_true scope u s) e _ _ _ _
        (whole a e _ _ h (λ z. exec_good a k.1 l.0 e _ _ h z))
        (whole b e _ _ h (λ z. exec_good b k.2 l.1 e _ _ h z)))
    exec_good (Case u items) k l e s t g f =
        let c = items_form scope.names (form scope.names u) items in
        let v = value scope (sample s) u c in
        let w = items_same scope next items l e s t g.holds f in
        let q : items_form next.names (form next.names (put scope.names.rows e.values u)) (unrolled_items scope items e) ≡ c
        = ap (λ z. items_form next.names z (unrolled_items scope items e)) (put_form scope funs call al e s t g.same g.holds u) ∙ items_form_put e (form scope.names u) items in
        let y = put_value scope funs call al e s t g.same g.holds u k.0 c in
        let h = counted_good (items_hold scope s items) e s t f g in
        rw (w, q, y) (items_good items k.1 l e _ _ _ _ v c h (default_good items k.1 l e _ _ h))
    exec_good (For j start test step a) k l e s t g f =
        let x = exec scope start e in
        let b : Beside scope j e x = header_beside scope j start l.1 e e g.holds.alive (record { loops = λ i m d. refl; size = refl }) in
        let h : Good x (exec scope start s) t = record { same = header_same scope j start l.1 l.0 s t f g.same; holds = header_holds scope j start l.1 e s f g.holds } in
        let r = turns_good j l.0 test step a l.2 l.3 (λ z u v d. whole a z u v d (λ y. exec_good a k.4 l.4 z u v d y)) e most_turns x (exec scope start s) t b h in
        record { same = restored_same scope j l.0 s _ _ r.same; holds = restored_holds scope j e s _ g.holds r.beside }
    exec_good (Repeat n a) k l e s t g f = times_good a e (λ u v d. whole a e u v d (λ y. exec_good a k l e u v d y)) n s t g
    exec_good (Set u x) k l e s t g f = set_good (Set u x) e s t l g (rw (set_alive scope u x s f, set_alive next _ _ t (alive s t g.same f), assignment_put scope funs call al e s t g.same g.holds u x k.0 k.1)
        (let r = updates_agree (is_loop scope.names.rows) scope.names.rows (assignment scope (sample s) u x) s.values t.values (record { words = g.same.others; size = g.same.size }) in
        record { others = r.words; size = r.size; all_else = g.same.all_else }))
    exec_good (Later u x) k l e s t g f = set_good (Later u x) e s t l g (rw (later_alive scope u x s f, later_alive next _ _ t (alive s t g.same f), assignment_put scope funs call al e s t g.same g.holds u x k.0 k.1)
        (record { others = g.same.others; size = g.same.size; all_else = ap (λ (z : State). record z { later = z.later ++ assignment scope (sample s) u x }) (g.same.all_else) }))
    exec_good (Sys task) k l e s t g f = set_good (Sys task) e s t l g (rw (sys_alive scope task s f, sys_alive next _ t (alive s t g.same f))
        (counted_same scope funs call al _ _ (done_same scope funs call al e s t g.same g.holds task k l)))

    items_good : (items : Items) → AreSoundItems scope.names items → HaveLoops scope.names.rows items → (e s t o p : State) (v : ℕ) (c : Form) → Good e s t → Good e o p →
        Good e (exec_items scope v c items o s) (exec_items next v c (unrolled_items scope items e) p t)
    items_good NoItems k l e s t o p v c g h = h
    items_good (Labelled es a others) k l e s t o p v c g h =
        rw (some_match_put e s t g c v es k.0) (choose (some_match scope (sample s) c v es) e _ _ _ _
        (whole a e s t g (λ z. exec_good a k.1 l.0 e s t g z)) (items_good others k.2 l.1 e s t o p v c g h))
    items_good (Default a others) k l e s t o p v c g h = items_good others k.1 l.1 e s t o p v c g h

    default_good : (items : Items) → AreSoundItems scope.names items → HaveLoops scope.names.rows items → (e s t : State) → Good e s t → Good e (exec_default scope items s) (exec_default next (unrolled_items scope items e) t)
    default_good NoItems k l e s t g = g
    default_good (Labelled es a others) k l e s t g = default_good others k.2 l.1 e s t g
    default_good (Default a others) k l e s t g = whole a e s t g (λ z. exec_good a k.0 l.0 e s t g z)

  -- from states that belong together to states that belong together
  pub whole_good : (a : Stm) → IsSoundStm scope.names a → HasLoops scope.names.rows a → (e s t : State) → Good e s t → Both e a s t
  whole_good a k l e s t g = whole a e s t g (λ f. exec_good a k l e s t g f)
