-- A report is read from its front.
use Rattle.std.specs.Prelude.{◌≢◌, ⊤}
use Rattle.std.proofs.Common.{◌≡◌, ℕ, ◌<◌, ◌^◌, List, [], ◌∷◌, ◌++◌, length, codes, refl, sym, ap, ◌∙◌, append_assoc, arith, lit<}
use Rattle.std.specs.List.{AllByRecursion, flat_map}
use Rattle.std.specs.Fmt.{decimal}
use Rattle.std.proofs.lemmas.List.{append_cancel_left}
use Rattle.ten_plan.specs.vl_base.specs.declared.place.Place.{Place}
use Rattle.host_text.specs.declared.block.Status.{Status}
use Rattle.host_text.specs.declared.block.Status.TheVariants.{Finished, Budget, Stopped}
use Rattle.host_text.specs.declared.block.Stay.{Stay}
use Rattle.host_text.specs.declared.block.RunBlock.{RunBlock}
use Rattle.host_text.specs.declared.block.RefusedLine.{RefusedLine}
use Rattle.host_text.specs.declared.block.Block.{Block}
use Rattle.host_text.specs.declared.block.Block.TheVariants as b
use Rattle.host_text.specs.declared.block.FreeLine.{FreeLine}
use Rattle.host_text.specs.Report.{status_word, number, title, tenant_line, stay_line, run_block, refused_line, block, free_line, report}
use Rattle.host_text.specs.Readable.{IsWord, IsStay, IsRun, IsRefusal, IsReadable}
use Rattle.host_text.proofs.Cutting.{Lacks, far, heads, tail, not_empty, cut, cut_at_length, cut_numbers}
use Rattle.ten_plan.specs.vl_base.proofs.Lists.{append_assoc_four as assoc_four, append_assoc_five as assoc_five}

-- ---- words

pub space_before_digits : 32 < 48
space_before_digits = lit< tt

pub newline_before_digits : 10 < 48
newline_before_digits = lit< tt

status-lacks : (s : Status) → Lacks 32 (status_word s)
status-lacks Finished = (far 32 102 (lit< tt), (far 32 105 (lit< tt), (far 32 110 (lit< tt), (far 32 105 (lit< tt), (far 32 115 (lit< tt), (far 32 104 (lit< tt), (far 32 101 (lit< tt), (far 32 100 (lit< tt), tt))))))))
status-lacks Budget = (far 32 98 (lit< tt), (far 32 117 (lit< tt), (far 32 100 (lit< tt), (far 32 103 (lit< tt), (far 32 101 (lit< tt), (far 32 116 (lit< tt), tt))))))
status-lacks Stopped = (far 32 115 (lit< tt), (far 32 116 (lit< tt), (far 32 111 (lit< tt), (far 32 112 (lit< tt), (far 32 112 (lit< tt), (far 32 101 (lit< tt), (far 32 100 (lit< tt), tt)))))))

differ : {A : Type 0} (m n : ℕ) → m ≢ n → m ≡ n → A
differ m n h e = absurd (h e)

same_status : (s t : Status) → status_word s ≡ status_word t → s ≡ t
same_status Finished Finished e = refl
same_status Budget Budget e = refl
same_status Stopped Stopped e = refl
same_status Finished Budget e = let l : 8 ≡ 6 = ap length e in absurd (omega (arith, l))
same_status Finished Stopped e = let l : 8 ≡ 7 = ap length e in absurd (omega (arith, l))
same_status Budget Finished e = let l : 6 ≡ 8 = ap length e in absurd (omega (arith, l))
same_status Budget Stopped e = let l : 6 ≡ 7 = ap length e in absurd (omega (arith, l))
same_status Stopped Finished e = let l : 7 ≡ 8 = ap length e in absurd (omega (arith, l))
same_status Stopped Budget e = let l : 7 ≡ 6 = ap length e in absurd (omega (arith, l))

-- ---- lists, one after another

assoc_seven : (a b c d e f g h : List ℕ) → ((((((a ++ b) ++ c) ++ d) ++ e) ++ f) ++ g) ++ h ≡ a ++ (b ++ (c ++ (d ++ (e ++ (f ++ (g ++ h))))))
assoc_seven a b c d e f g h = simp append_assoc

-- ---- stays

-- no stay begins here
abbrev pub NoStay : List ℕ → Type 0
NoStay [] = ⊤
NoStay (b ∷ bs) = b ≢ 115

stay-nested : (name : List ℕ) (s : Stay) (more : List ℕ)
    → stay_line name s ++ more ≡ codes "stay " ++ (name ++ (32 ∷ (s.fabric ++ (32 ∷ (decimal s.from ++ (32 ∷ (decimal s.to ++ (10 ∷ more))))))))
stay-nested name s more = assoc_seven (codes "stay ") name (codes " ") s.fabric (number s.from) (number s.to) (codes "\n") more

same_stay : (s t : Stay) → s.fabric ≡ t.fabric → s.from ≡ t.from → s.to ≡ t.to → s ≡ t
same_stay s t f a b = λ i. record { fabric = f i; from = a i; to = b i }

stay-back : (name : List ℕ) (s t : Stay) (r q : List ℕ) → IsStay s → IsStay t → stay_line name s ++ r ≡ stay_line name t ++ q → (s ≡ t) × (r ≡ q)
stay-back name s t r q h k e =
    let nested = sym (stay-nested name s r) ∙ e ∙ stay-nested name t q in
    let named = append_cancel_left (codes "stay ") _ _ nested in
    let behind = append_cancel_left name _ _ named in
    let fabric = cut 32 s.fabric t.fabric _ _ h.fabric k.fabric (tail behind) in
    let from = cut_numbers 32 space_before_digits s.from t.from _ _ h.from k.from fabric.1 in
    let to = cut_numbers 10 newline_before_digits s.to t.to _ _ h.to k.to from.1 in
    (same_stay s t fabric.0 from.0 to.0, to.1)

-- stays, up to what is none
stays-back : (name : List ℕ) (ss ts : List Stay) (r q : List ℕ) → AllByRecursion IsStay ss → AllByRecursion IsStay ts → NoStay r → NoStay q
    → flat_map (stay_line name) ss ++ r ≡ flat_map (stay_line name) ts ++ q → (ss ≡ ts) × (r ≡ q)
stays-back name [] [] r q h k a b e = (refl, e)
stays-back name [] (t ∷ ts) [] q h k a b e = absurd (not_empty 115 _ e)
stays-back name [] (t ∷ ts) (x ∷ r) q h k a b e = absurd (a (heads x 115 r _ e))
stays-back name (s ∷ ss) [] r [] h k a b e = absurd (not_empty 115 _ (sym e))
stays-back name (s ∷ ss) [] r (x ∷ q) h k a b e = absurd (b (sym (heads 115 x _ q e)))
stays-back name (s ∷ ss) (t ∷ ts) r q h k a b e =
    let flat = sym (append_assoc (stay_line name s) (flat_map (stay_line name) ss) r) ∙ e ∙ append_assoc (stay_line name t) (flat_map (stay_line name) ts) q in
    let first = stay-back name s t (flat_map (stay_line name) ss ++ r) (flat_map (stay_line name) ts ++ q) h.0 k.0 flat in
    let rest = stays-back name ss ts r q h.1 k.1 a b first.1 in
    (ap (λ x. x ∷ ss) first.0 ∙ ap (λ xs. t ∷ xs) rest.0, rest.1)

-- ---- blocks

run-nested : (a : RunBlock) (more : List ℕ)
    → run_block a ++ more ≡ codes "tenant " ++ (a.name ++ (32 ∷ (status_word a.status ++ (32 ∷ (decimal a.ticks ++ (32 ∷ (decimal a.cycles ++ (32 ∷ (decimal (length a.printed) ++ (10 ∷ (a.printed ++ (10 ∷ (flat_map (stay_line a.name) a.stays ++ more)))))))))))))
run-nested a more =
    assoc_four (tenant_line a) a.printed (codes "\n") (flat_map (stay_line a.name) a.stays) more
    ∙ assoc_five (title a) (number a.ticks) (number a.cycles) (number (length a.printed)) (codes "\n") (a.printed ++ (10 ∷ (flat_map (stay_line a.name) a.stays ++ more)))
    ∙ assoc_four (codes "tenant ") a.name (codes " ") (status_word a.status)
    (32 ∷ (decimal a.ticks ++ (32 ∷ (decimal a.cycles ++ (32 ∷ (decimal (length a.printed) ++ (10 ∷ (a.printed ++ (10 ∷ (flat_map (stay_line a.name) a.stays ++ more))))))))))

same_run : (a b : RunBlock) → a.name ≡ b.name → a.status ≡ b.status → a.ticks ≡ b.ticks → a.cycles ≡ b.cycles → a.printed ≡ b.printed → a.stays ≡ b.stays → a ≡ b
same_run a b n s t c p y = λ i. record { name = n i; status = s i; ticks = t i; cycles = c i; printed = p i; stays = y i }

run-back : (a c : RunBlock) (r q : List ℕ) → IsRun a → IsRun c → NoStay r → NoStay q → run_block a ++ r ≡ run_block c ++ q → (a ≡ c) × (r ≡ q)
run-back a c r q h k x y e =
    let nested = sym (run-nested a r) ∙ e ∙ run-nested c q in
    let behind = append_cancel_left (codes "tenant ") _ _ nested in
    let name = cut 32 a.name c.name _ _ h.name k.name behind in
    let status = cut 32 (status_word a.status) (status_word c.status) _ _ (status-lacks a.status) (status-lacks c.status) name.1 in
    let ticks = cut_numbers 32 space_before_digits a.ticks c.ticks _ _ h.ticks k.ticks status.1 in
    let cycles = cut_numbers 32 space_before_digits a.cycles c.cycles _ _ h.cycles k.cycles ticks.1 in
    let bytes = cut_numbers 10 newline_before_digits (length a.printed) (length c.printed) _ _ h.bytes k.bytes cycles.1 in
    let printed = cut_at_length a.printed c.printed _ _ bytes.0 bytes.1 in
    let here : flat_map (stay_line a.name) a.stays ++ r ≡ flat_map (stay_line a.name) c.stays ++ q =
    tail printed.1 ∙ ap (λ n. flat_map (stay_line n) c.stays ++ q) (sym name.0) in
    let stays = stays-back a.name a.stays c.stays r q h.stays k.stays x y here in
    (same_run a c name.0 (same_status a.status c.status status.0) ticks.0 cycles.0 printed.0 stays.0, stays.1)

refused-nested : (a : RefusedLine) (more : List ℕ)
    → refused_line a ++ more ≡ codes "refused " ++ (a.name ++ (32 ∷ (decimal a.place.line ++ (32 ∷ (decimal a.place.column ++ (32 ∷ (a.kind ++ (10 ∷ more))))))))
refused-nested a more = assoc_seven (codes "refused ") a.name (number a.place.line) (number a.place.column) (codes " ") a.kind (codes "\n") more

same_place : (p q : Place) → p.line ≡ q.line → p.column ≡ q.column → p ≡ q
same_place p q l c = λ i. record { line = l i; column = c i }

same_refusal : (a b : RefusedLine) → a.name ≡ b.name → a.place ≡ b.place → a.kind ≡ b.kind → a ≡ b
same_refusal a b n p k = λ i. record { name = n i; place = p i; kind = k i }

refused-back : (a c : RefusedLine) (r q : List ℕ) → IsRefusal a → IsRefusal c → refused_line a ++ r ≡ refused_line c ++ q → (a ≡ c) × (r ≡ q)
refused-back a c r q h k e =
    let nested = sym (refused-nested a r) ∙ e ∙ refused-nested c q in
    let behind = append_cancel_left (codes "refused ") _ _ nested in
    let name = cut 32 a.name c.name _ _ h.name k.name behind in
    let line = cut_numbers 32 space_before_digits a.place.line c.place.line _ _ h.line k.line name.1 in
    let column = cut_numbers 32 space_before_digits a.place.column c.place.column _ _ h.column k.column line.1 in
    let kind = cut 10 a.kind c.kind _ _ h.kind k.kind column.1 in
    (same_refusal a c name.0 (same_place a.place c.place line.0 column.0) kind.0, kind.1)

block-back : (x y : Block) (r q : List ℕ) → IsReadable x → IsReadable y → NoStay r → NoStay q → block x ++ r ≡ block y ++ q → (x ≡ y) × (r ≡ q)
block-back (b.Ran a) (b.Ran c) r q h k u v e = let both = run-back a c r q h k u v e in (ap b.Ran both.0, both.1)
block-back (b.Refused a) (b.Refused c) r q h k u v e = let both = refused-back a c r q h k e in (ap b.Refused both.0, both.1)
block-back (b.Ran a) (b.Refused c) r q h k u v e = differ 116 114 (far 114 116 (lit< tt)) (heads 116 114 _ _ e)
block-back (b.Refused a) (b.Ran c) r q h k u v e = differ 116 114 (far 114 116 (lit< tt)) (sym (heads 114 116 _ _ e))

-- what stands behind a block
no-stay : (bs : List Block) (fs : List FreeLine) → NoStay (report bs fs)
no-stay [] [] = tt
no-stay [] (f ∷ fs) = λ e. omega (arith, e)
no-stay (b.Ran a ∷ bs) fs = far 115 116 (lit< tt)
no-stay (b.Refused a ∷ bs) fs = λ e. omega (arith, e)

-- no block begins like a free order
no-block : (x : Block) (r : List ℕ) (fs : List FreeLine) → flat_map free_line fs ≡ block x ++ r → ⊥
no-block (b.Ran a) r [] e = not_empty 116 _ e
no-block (b.Refused a) r [] e = not_empty 114 _ e
no-block (b.Ran a) r (f ∷ fs) e = let l : 102 ≡ 116 = heads 102 116 _ _ e in omega (arith, l)
no-block (b.Refused a) r (f ∷ fs) e = let l : 102 ≡ 114 = heads 102 114 _ _ e in omega (arith, l)

pub blocks-back : (bs cs : List Block) (fs gs : List FreeLine) → AllByRecursion IsReadable bs → AllByRecursion IsReadable cs → report bs fs ≡ report cs gs → bs ≡ cs
blocks-back [] [] fs gs h k e = refl
blocks-back [] (c ∷ cs) fs gs h k e = absurd (no-block c (report cs gs) fs (e ∙ append_assoc (block c) (flat_map block cs) (flat_map free_line gs)))
blocks-back (x ∷ bs) [] fs gs h k e = absurd (no-block x (report bs fs) gs (sym e ∙ append_assoc (block x) (flat_map block bs) (flat_map free_line fs)))
blocks-back (x ∷ bs) (y ∷ cs) fs gs h k e =
    let flat = sym (append_assoc (block x) (flat_map block bs) (flat_map free_line fs)) ∙ e ∙ append_assoc (block y) (flat_map block cs) (flat_map free_line gs) in
    let first = block-back x y (report bs fs) (report cs gs) h.0 k.0 (no-stay bs fs) (no-stay cs gs) flat in
    ap (λ z. z ∷ bs) first.0 ∙ ap (λ zs. y ∷ zs) (blocks-back bs cs fs gs h.1 k.1 first.1)
