-- How far loops over ports have come.
use Rattle.std.proofs.Common.{◌≡◌, inl, inr, ℕ, suc, ◌+◌, ◌-◌, ◌<◌, ◌≤◌, ◌^◌, List, [], ◌∷◌, ◌++◌, length, sum as total, get_or, take, drop, replicate, refl, sym, ap, ◌∙◌, arith, subst, length-append, length-drop}
use Rattle.std.specs.Prelude.{slice_index, All}
use Rattle.std.specs.List.{AllZip}
use Rattle.std.proofs.lemmas.List.{drop_more, drop_all, drop-drop, drop_at, get_or-drop, get_or-take, get_or-replicate, get_or_append_left, length-replicate, length-take-le}
use Rattle.std.proofs.lemmas.List.Elements.{All-get_or}
use Rattle.std.proofs.lemmas.Bool.{cases_lt}
use Rattle.cell_form.specs.declared.bank.Port.{Port}
use Rattle.cell_form.specs.Data.{BankData}
use Rattle.reg_ports.specs.Ports.{word_count, word_counts, widths, with_held, restored, IsThere}
use Rattle.reg_ports.specs.Refusals.{AreFit, IsFirstWide}
use Rattle.reg_ports.proofs.Holding.{widths-length, with-shape, there-same}
use Rattle.cell_form.specs.vl_base.proofs.Lists.{drop_next as next}

-- the widths of the words of a port and of those behind it
widths-next : (ports : List Port) (i : ℕ) (p : Port) → i < length ports → p ≡ get_or ports i p → widths (drop i ports) ≡ replicate (word_count p) p.width ++ widths (drop (i + 1) ports)
widths-next ports i p lt is = ap widths (next ports i p lt is)

-- there are as many words left as the ports left have
room : (ports : List Port) (i : ℕ) (p : Port) (left : List ℕ) → i < length ports → p ≡ get_or ports i p → length left ≡ length (widths (drop i ports)) → word_count p ≤ length left
room ports i p left lt is many =
    let e : length (widths (drop i ports)) ≡ length (replicate (word_count p) p.width ++ widths (drop (i + 1) ports)) = ap (λ (xs : List ℕ). length xs) (widths-next ports i p lt is) in
    let n = length-append (replicate (word_count p) p.width) (widths (drop (i + 1) ports)) in
    let c = length-replicate (word_count p) p.width in
    omega arith

less : (ports : List Port) (i : ℕ) (p : Port) (left : List ℕ) → i < length ports → p ≡ get_or ports i p → length left ≡ length (widths (drop i ports)) → length (drop (word_count p) left) ≡ length (widths (drop (i + 1) ports))
less ports i p left lt is many =
    let e : length (widths (drop i ports)) ≡ length (replicate (word_count p) p.width ++ widths (drop (i + 1) ports)) = ap (λ (xs : List ℕ). length xs) (widths-next ports i p lt is) in
    let n = length-append (replicate (word_count p) p.width) (widths (drop (i + 1) ports)) in
    let c = length-replicate (word_count p) p.width in
    let d = length-drop (word_count p) left in
    omega arith

-- ---- the ports set so far

pub record Put (ports : List Port) (ws : List ℕ) (start : BankData) (i : ℕ) (left : List ℕ) (now : BankData) : Type 0 where
  pub same : restored (drop i ports) left now ≡ restored ports ws start
  pub there : All (IsThere now) ports
  pub many : length left ≡ length (widths (drop i ports))

module _ (ports : List Port) (ws : List ℕ) (start : BankData) where
  pub put-none : All (IsThere start) ports → length ws ≡ total (word_counts ports) → Put ports ws start 0 ws start
  put-none there many = record { same = refl; there = there; many = many ∙ sym (widths-length ports) }

  module _ (i : ℕ) (p : Port) (left : List ℕ) (now : BankData) (lt : i < length ports) (is : p ≡ get_or ports i p) (h : Put ports ws start i left now) where
    pub put-room : word_count p ≤ length left
    put-room = room ports i p left lt is h.many

    pub put-there : IsThere now p
    put-there = subst (IsThere now) (sym is) (All-get_or (IsThere now) ports i p lt h.there)

    pub put-more : (own others : List ℕ) (n : ℕ) (after : BankData) → n ≡ word_count p → own ≡ take n left → others ≡ drop n left → after ≡ with_held p own now → Put ports ws start (i + 1) others after
    put-more own others n after count front back e =
        let c = word_count p in
        let own_is : own ≡ take c left = front ∙ ap (λ m. take m left) count in
        let others_is : others ≡ drop c left = back ∙ ap (λ m. drop m left) count in
        let after_is : after ≡ with_held p (take c left) now = e ∙ ap (λ (xs : List ℕ). with_held p xs now) own_is in
        let S : List Port → Type 0 = λ qs. restored qs left now ≡ restored ports ws start in
        let s : restored (drop (i + 1) ports) (drop c left) (with_held p (take c left) now) ≡ restored ports ws start = subst S (next ports i p lt is) h.same in
        let shape = with-shape p (take c left) now put-there (length-take-le c left put-room) in
        record {
          same = ap (λ (xs : List ℕ). restored (drop (i + 1) ports) xs after) others_is ∙ ap (restored (drop (i + 1) ports) (drop c left)) after_is ∙ s;
          there = λ k d lt. subst (λ (b : BankData). IsThere b (get_or ports k d)) (sym after_is) (there-same (with_held p (take c left) now) now (get_or ports k d) shape (h.there k d lt));
          many = ap (λ (xs : List ℕ). length xs) others_is ∙ less ports i p left lt is h.many;
        }

  pub put-all : (i : ℕ) (left : List ℕ) (now : BankData) → length ports ≤ i → Put ports ws start i left now → now ≡ restored ports ws start
  put-all i left now past h =
      let S : List Port → Type 0 = λ qs. restored qs left now ≡ restored ports ws start in
      subst S (drop_all i ports past) h.same

-- ---- the words checked so far

pub record Checked (ports : List Port) (ws : List ℕ) (i n : ℕ) (left : List ℕ) : Type 0 where
  pub rest : left ≡ drop n ws
  pub behind : widths (drop i ports) ≡ drop n (widths ports)
  pub many : length left ≡ length (widths (drop i ports))
  pub sum : n + length left ≡ length ws
  pub fit : (k : ℕ) → k < n → slice_index ws k < 2 ^ slice_index (widths ports) k

zip-from : (xs ws : List ℕ) → length ws ≡ length xs → ((k : ℕ) → k < length ws → slice_index ws k < 2 ^ slice_index xs k) → AllZip (λ w v. v < 2 ^ w) xs ws
zip-from [] [] e f = tt
zip-from [] (v ∷ ws) e f = absurd (omega arith)
zip-from (x ∷ xs) [] e f = absurd (omega arith)
zip-from (x ∷ xs) (v ∷ ws) e f = (f 0 (omega arith), zip-from xs ws (omega arith) (λ k lt. f (suc k) (omega arith)))

module _ (ports : List Port) (ws : List ℕ) where
  pub checked-none : length ws ≡ total (word_counts ports) → Checked ports ws 0 0 ws
  checked-none many = record { rest = refl; behind = refl; many = many ∙ sym (widths-length ports); sum = omega arith; fit = λ k lt. absurd (omega arith) }

  module _ (i : ℕ) (p : Port) (n : ℕ) (left : List ℕ) (lt : i < length ports) (is : p ≡ get_or ports i p) (h : Checked ports ws i n left) where
    pub checked-room : word_count p ≤ length left
    checked-room = room ports i p left lt is h.many

    word-here : (k : ℕ) → k < word_count p → slice_index ws (n + k) ≡ slice_index (take (word_count p) left) k
    word-here k small = sym (get_or-take (word_count p) left k 0 small ∙ ap (λ (xs : List ℕ). slice_index xs k) h.rest ∙ get_or-drop n ws k 0)

    width-here : (k : ℕ) → k < word_count p → slice_index (widths ports) (n + k) ≡ p.width
    width-here k small =
        let own = replicate (word_count p) p.width in
        let long = length-replicate (word_count p) p.width in
        let within : k < length own = omega (arith, long) in
        sym (get_or-drop n (widths ports) k 0) ∙ ap (λ (xs : List ℕ). slice_index xs k) (sym h.behind ∙ widths-next ports i p lt is)
        ∙ get_or_append_left own (widths (drop (i + 1) ports)) 0 k within ∙ get_or-replicate (word_count p) k p.width 0 small

    -- words of the port that fit, up to a number
    here : (m : ℕ) → m ≤ word_count p → ((k : ℕ) → k < m → slice_index (take (word_count p) left) k < 2 ^ p.width) → (k : ℕ) → k < n + m → slice_index ws k < 2 ^ slice_index (widths ports) k
    here m small f k lt = elim (cases_lt k n) [
      | inl low ↦ h.fit k low
      | inr past ↦ (
          let j = k - n in
          let up : n + j ≡ k = omega arith in
          let P : ℕ → Type 0 = λ x. slice_index ws x < 2 ^ slice_index (widths ports) x in
          let Q : ℕ → Type 0 = λ v. v < 2 ^ slice_index (widths ports) (n + j) in
          let R : ℕ → Type 0 = λ w. slice_index (take (word_count p) left) j < 2 ^ w in
          subst P up (subst Q (sym (word-here j (omega arith))) (subst R (sym (width-here j (omega arith))) (f j (omega arith)))))
    ]

    pub checked-more : (own others : List ℕ) (c m : ℕ) → c ≡ word_count p → own ≡ take c left → others ≡ drop c left → m ≡ n + length own → All (λ w. w < 2 ^ p.width) own → Checked ports ws (i + 1) m others
    checked-more own others c m count front back e fits =
        let w = word_count p in
        let own_is : own ≡ take w left = front ∙ ap (λ k. take k left) count in
        let others_is : others ≡ drop w left = back ∙ ap (λ k. drop k left) count in
        let long : length own ≡ w = ap (λ (xs : List ℕ). length xs) own_is ∙ length-take-le w left checked-room in
        let up : m ≡ n + w = omega arith in
        let wide = replicate w p.width in
        let F : ℕ → Type 0 = λ q. (k : ℕ) → k < q → slice_index ws k < 2 ^ slice_index (widths ports) k in
        let ok : (k : ℕ) → k < w → slice_index (take w left) k < 2 ^ p.width = λ k small. subst (λ (xs : List ℕ). slice_index xs k < 2 ^ p.width) own_is (fits k 0 (omega arith)) in
        let fewer = less ports i p left lt is h.many in
        let cut = length-drop w left in
        let sum = h.sum in
        let fits_in = checked-room in
        let same : length others ≡ length (drop w left) = ap (λ (xs : List ℕ). length xs) others_is in
        record {
          rest = others_is ∙ ap (drop w) h.rest ∙ drop-drop w n ws ∙ ap (λ k. drop k ws) (sym up);
          behind = sym (drop_at wide (widths (drop (i + 1) ports)) w (length-replicate w p.width)) ∙ ap (drop w) (sym (widths-next ports i p lt is) ∙ h.behind) ∙ drop-drop w n (widths ports) ∙ ap (λ k. drop k (widths ports)) (sym up);
          many = same ∙ fewer;
          sum = omega arith;
          fit = subst F (sym up) (here w (omega arith) ok);
        }

    pub checked-wide : (own : List ℕ) (c number m : ℕ) → c ≡ word_count p → own ≡ take c left → m ≡ n + number → number < length own → 2 ^ p.width ≤ slice_index own number →
        ((k : ℕ) → k < number → slice_index own k < 2 ^ p.width) → length ws ≡ total (word_counts ports) → IsFirstWide ports ws m (slice_index ws m)
    checked-wide own c number m count front e inside wide first many =
        let w = word_count p in
        let own_is : own ≡ take w left = front ∙ ap (λ k. take k left) count in
        let long : length own ≡ w = ap (λ (xs : List ℕ). length xs) own_is ∙ length-take-le w left checked-room in
        let small : number < w = omega arith in
        let sum = h.sum in
        let fits_in = checked-room in
        let F : ℕ → Type 0 = λ q. (k : ℕ) → k < q → slice_index ws k < 2 ^ slice_index (widths ports) k in
        let ok : (k : ℕ) → k < number → slice_index (take w left) k < 2 ^ p.width = λ k lt. subst (λ (xs : List ℕ). slice_index xs k < 2 ^ p.width) own_is (first k lt) in
        let word : slice_index ws (n + number) ≡ slice_index own number = word-here number small ∙ ap (λ (xs : List ℕ). slice_index xs number) (sym own_is) in
        let P : ℕ → Type 0 = λ v. 2 ^ p.width ≤ v in
        let Q : ℕ → Type 0 = λ v. 2 ^ v ≤ slice_index ws (n + number) in
        let R : ℕ → Type 0 = λ q. 2 ^ slice_index (widths ports) q ≤ slice_index ws q in
        record {
          many = many;
          there = omega arith;
          is = refl;
          wide = subst R (sym e) (subst Q (sym (width-here number small)) (subst P (sym word) wide));
          first = subst F (sym e) (here number (omega arith) ok);
        }

  pub checked-all : (i n : ℕ) (left : List ℕ) → length ports ≤ i → length ws ≡ total (word_counts ports) → Checked ports ws i n left → AreFit ports ws
  checked-all i n left past many h =
      let none : widths (drop i ports) ≡ [] = ap widths (drop_all i ports past) in
      let empty : length (widths (drop i ports)) ≡ 0 = ap (λ (xs : List ℕ). length xs) none in
      let many_left = h.many in
      let sum = h.sum in
      zip-from (widths ports) ws (many ∙ sym (widths-length ports)) (λ k lt. h.fit k (omega arith))
