-- A trap under the numbers of a part does to this part what it does alone, and nothing elsewhere.
use Rattle.std.proofs.Common.{◌≡◌, ℕ, ◌+◌, ◌^◌, ◌<◌, Option, Some, None, List, [], ◌∷◌, ◌++◌, length, map, set, get_or, refl, sym, ap, ◌∙◌, arith, subst}
use Rattle.std.specs.Prelude.{ℤ, codes, slice_index, if◌then◌else◌}
use Rattle.std.proofs.lemmas.List.{length-set}
use Rattle.cell_eval.specs.vl_base.specs.declared.files.File.{File}
use Rattle.cell_eval.specs.vl_base.specs.declared.files.OpenFile.{OpenFile}
use Rattle.cell_eval.specs.vl_base.specs.Display.{letter_text}
use Rattle.cell_eval.specs.vl_base.specs.Files as file
use Rattle.trap_runtime.specs.vl_design.specs.ReadHex.{words_read}
use Rattle.trap_runtime.specs.vl_design.specs.Rows.{lower_of, range_width}
use Rattle.trap_runtime.specs.cell_form.specs.declared.table.FormatPart.{FormatPart}
use Rattle.trap_runtime.specs.cell_form.specs.declared.table.FormatPart.TheVariants as part_of
use Rattle.trap_runtime.specs.cell_form.specs.declared.table.Trap.{Trap}
use Rattle.trap_runtime.specs.cell_form.specs.declared.table.TrapCall.{TrapCall}
use Rattle.trap_runtime.specs.cell_form.specs.declared.table.TrapCall.TheVariants as call
use Rattle.trap_runtime.specs.cell_form.specs.Data.{BankData}
use Rattle.trap_runtime.specs.cell_form.specs.Sound.{Shape, shape_of}
use Rattle.trap_runtime.specs.Served.{Works, held, parts_text, loaded, served_call, served}
use Rattle.trap_runtime.specs.Traps.{Holds, HaveValues, HasDescriptor, IsVariable, IsMemory, CanServe, IsTrap}
use Rattle.fab_join.specs.Banks.{part, IsWithin, AreApart}
use Rattle.fab_join.specs.Numbers.{behind, numbered_trap}
use Rattle.fab_join.proofs.Laid.{shape_part}
use Rattle.fab_join.proofs.PartCycles.{get_in_part, set_in_part, set_elsewhere}

abbrev trap : TrapCall → List ℕ → ℕ → Option ℕ → Trap
trap c args answer target = record { call = c; args = args; answer = answer; target = target }

-- what is done on a bank is, on a part, what is done alone, and nothing elsewhere
pub record DoesAlone (a s : Shape) (b : BankData) (x own : Works) : Type 0 where
  pub bank : part a s x.bank ≡ own.bank
  pub table : x.table ≡ own.table
  pub printed : x.printed ≡ own.printed
  pub shape : shape_of x.bank ≡ shape_of b
  pub elsewhere : (c t : Shape) → AreApart a s c t → part c t x.bank ≡ part c t b

module _ (a s : Shape) where
  -- ---- what is read

  module _ (b : BankData) (within : IsWithin a s (shape_of b)) where
    slots-there : (k : ℕ) → k < length (part a s b).slots → k < s.slots
    slots-there k lt = let e = ap (λ (z : Shape). z.slots) (shape_part a s b within) in omega (arith, e, lt)

    regs-there : (k : ℕ) → k < length (part a s b).regs → k < s.regs
    regs-there k lt = let e = ap (λ (z : Shape). z.regs) (shape_part a s b within) in omega (arith, e, lt)

    mems-there : (k : ℕ) → k < length (part a s b).mems → k < s.mems
    mems-there k lt = let e = ap (λ (z : Shape). z.mems) (shape_part a s b within) in omega (arith, e, lt)

    slot-moved : (k : ℕ) → k < length (part a s b).slots → slice_index b.slots (a.slots + k) ≡ slice_index (part a s b).slots k
    slot-moved k lt = get_in_part b.slots a.slots s.slots k 0 (slots-there k lt)

    holds-moved : (w k : ℕ) → Holds (part a s b) w k → Holds b w (a.slots + k)
    holds-moved w k h =
        let lt = slots-there k h.there in
        let P : ℕ → Type 0 = λ v. v < 2 ^ w in
        record { width = h.width; there = omega (arith, lt, within.slots); fits = subst P (sym (slot-moved k h.there)) h.fits }

    text-moved : (ps : List FormatPart) (args : List ℕ) → HaveValues (part a s b) ps args → parts_text ps (held b (map (λ k. a.slots + k) args)) ≡ parts_text ps (held (part a s b) args)
    text-moved [] args h = refl
    text-moved (part_of.Lit text ∷ ps) args h = ap (λ ys. text ++ ys) (text-moved ps args h)
    text-moved (part_of.Item letter least w signed ∷ ps) [] h = absurd h
    text-moved (part_of.Item letter least w signed ∷ ps) (k ∷ args) h =
        let T : ℕ → List ℕ → List ℕ = λ v ys. letter_text letter least signed w v ++ ys in
        ap (λ (v : ℕ). T v (parts_text ps (held b (map (λ i. a.slots + i) args)))) (slot-moved k h.0.there)
        ∙ ap (T (slice_index (part a s b).slots k)) (text-moved ps args h.1)

    values-moved : (ps : List FormatPart) (args : List ℕ) → HaveValues (part a s b) ps args → HaveValues b ps (map (λ k. a.slots + k) args)
    values-moved [] args h = tt
    values-moved (part_of.Lit text ∷ ps) args h = values-moved ps args h
    values-moved (part_of.Item letter least w signed ∷ ps) [] h = absurd h
    values-moved (part_of.Item letter least w signed ∷ ps) (k ∷ args) h = (holds-moved w k h.0, values-moved ps args h.1)

    has-descriptor : (args : List ℕ) → HasDescriptor (part a s b) args → HasDescriptor b (map (λ k. a.slots + k) args)
    has-descriptor [] h = absurd h
    has-descriptor (k ∷ args) h = holds-moved 32 k h

    -- the descriptor
    fd-moved : (args : List ℕ) → HasDescriptor (part a s b) args → slice_index b.slots (slice_index (map (λ k. a.slots + k) args) 0) ≡ slice_index (part a s b).slots (slice_index args 0)
    fd-moved [] h = absurd h
    fd-moved (k ∷ args) h = slot-moved k h.there

    answer-there : (answer : ℕ) → answer < length (part a s b).regs → a.regs + answer < length b.regs
    answer-there answer h = let lt = regs-there answer h in omega (arith, lt, within.regs)

  -- ---- what is written

  written-answer : (b x : BankData) (own : BankData) (answer v : ℕ) → part a s x ≡ own → part a s (record x { regs = set x.regs (a.regs + answer) v }) ≡ record own { regs = set own.regs answer v }
  written-answer b x own answer v e =
      let mine = part a s x in
      ap (λ (rs : List ℕ). record { regs = rs; mems = mine.mems; slots = mine.slots }) (set_in_part x.regs a.regs s.regs answer v)
      ∙ ap (λ (y : BankData). record { regs = set y.regs answer v; mems = y.mems; slots = y.slots }) e

  kept-elsewhere : (x : BankData) (answer v : ℕ) → answer < s.regs → (c t : Shape) → AreApart a s c t → part c t (record x { regs = set x.regs (a.regs + answer) v }) ≡ part c t x
  kept-elsewhere x answer v lt c t apart =
      let mine = part c t x in
      ap (λ (rs : List ℕ). record { regs = rs; mems = mine.mems; slots = mine.slots }) (set_elsewhere x.regs a.regs s.regs c.regs t.regs answer v apart.regs lt)

  same-shape : (x : BankData) (k v : ℕ) → shape_of (record x { regs = set x.regs k v }) ≡ shape_of x
  same-shape x k v = ap (λ (n : ℕ). record { regs = n; mems = length x.mems; slots = length x.slots }) (length-set x.regs k v)

  -- ---- the calls

  module _ (b : BankData) (within : IsWithin a s (shape_of b)) (files : List File) (rows : List OpenFile) (printed : List ℕ) where
    abbrev here : Works
    here = record { bank = b; table = rows; printed = printed }

    abbrev alone : Works
    alone = record { bank = part a s b; table = rows; printed = printed }

    same-bank : (more : List OpenFile) (text other : List ℕ) → text ≡ other → DoesAlone a s b (record { bank = b; table = more; printed = text }) (record { bank = part a s b; table = more; printed = other })
    same-bank more text other e = record { bank = refl; table = refl; printed = e; shape = refl; elsewhere = λ c t apart. refl }

    with-answer : (more : List OpenFile) (answer v : ℕ) → answer < length (part a s b).regs → DoesAlone a s b (record { bank = record b { regs = set b.regs (a.regs + answer) v }; table = more; printed = printed }) (record { bank = record (part a s b) { regs = set (part a s b).regs answer v }; table = more; printed = printed })
    with-answer more answer v h = record {
      bank = written-answer b b (part a s b) answer v refl;
      table = refl;
      printed = refl;
      shape = same-shape b (a.regs + answer) v;
      elsewhere = kept-elsewhere b answer v (regs-there b within answer h);
    }

    with-both : (more : List OpenFile) (r answer v n : ℕ) → r < length (part a s b).regs → answer < length (part a s b).regs →
        DoesAlone a s b (record { bank = record b { regs = set (set b.regs (a.regs + r) v) (a.regs + answer) n }; table = more; printed = printed }) (record { bank = record (part a s b) { regs = set (set (part a s b).regs r v) answer n }; table = more; printed = printed })
    with-both more r answer v n h k =
        let x : BankData = record b { regs = set b.regs (a.regs + r) v } in
        let own : BankData = record (part a s b) { regs = set (part a s b).regs r v } in
        record {
          bank = written-answer b x own answer n (written-answer b b (part a s b) r v refl);
          table = refl;
          printed = refl;
          shape = same-shape x (a.regs + answer) n ∙ same-shape b (a.regs + r) v;
          elsewhere = λ c t apart. kept-elsewhere x answer n (regs-there b within answer k) c t apart ∙ kept-elsewhere b r v (regs-there b within r h) c t apart;
        }

    with-words : (text : Option (List ℕ)) (w : ℕ) (first last : ℤ) (name args : List ℕ) (answer m : ℕ) → m < length (part a s b).mems →
        DoesAlone a s b (record { bank = loaded text w first last (numbered_trap (behind a) (trap (call.ReadHex name w first last) args answer (Some m))) b; table = rows; printed = printed }) (record { bank = loaded text w first last (trap (call.ReadHex name w first last) args answer (Some m)) (part a s b); table = rows; printed = printed })
    with-words None w first last name args answer m h = same-bank rows printed printed refl
    with-words (Some text) w first last name args answer m h =
        let lt = mems-there b within m h in
        let mine = part a s b in
        let read : List ℕ → List ℕ = λ ws. words_read w (lower_of first last) (range_width first last) text ws in
        let new = read (get_or b.mems (a.mems + m) []) in
        record {
          bank = ap (λ (ms : List (List ℕ)). record { regs = mine.regs; mems = ms; slots = mine.slots })
              (set_in_part b.mems a.mems s.mems m new ∙ ap (λ (ws : List ℕ). set mine.mems m (read ws)) (get_in_part b.mems a.mems s.mems m [] lt));
          table = refl;
          printed = refl;
          shape = ap (λ (n : ℕ). record { regs = length b.regs; mems = n; slots = length b.slots }) (length-set b.mems (a.mems + m) new);
          elsewhere = λ c t apart.
              let other = part c t b in
              ap (λ (ms : List (List ℕ)). record { regs = other.regs; mems = ms; slots = other.slots }) (set_elsewhere b.mems a.mems s.mems c.mems t.mems m new apart.mems lt);
        }

    call-moved : (c : TrapCall) (args : List ℕ) (answer : ℕ) (target : Option ℕ) → CanServe (part a s b) (trap c args answer target) c →
        DoesAlone a s b (served_call files (numbered_trap (behind a) (trap c args answer target)) c here) (served_call files (trap c args answer target) c alone)
    call-moved (call.Print parts newline) args answer target h =
        same-bank rows _ _ (ap (λ (ys : List ℕ). printed ++ (ys ++ (if newline then codes "\n" else []))) (text-moved b within parts args h))
    call-moved call.Finish args answer target h = same-bank rows printed printed refl
    call-moved (call.Save name) args answer target h = same-bank rows printed printed refl
    call-moved (call.Fopen name) args answer target h = with-answer (file.opened files rows name).table answer (file.opened files rows name).answer h
    call-moved (call.Fread w) args answer None h = absurd h.1
    call-moved (call.Fread w) args answer (Some r) h =
        let mine = part a s b in
        let t = trap (call.Fread w) args answer (Some r) in
        let fd = slice_index mine.slots (slice_index args 0) in
        let old = slice_index mine.regs r in
        let R : ℕ → ℕ → file.Reading = λ f v. file.read files rows f w v in
        let W : ℕ → ℕ → Works = λ f v. record { bank = record b { regs = set (set b.regs (a.regs + r) (R f v).value) (a.regs + answer) (R f v).count }; table = (R f v).table; printed = printed } in
        let own : Works = record { bank = record mine { regs = set (set mine.regs r (R fd old).value) answer (R fd old).count }; table = (R fd old).table; printed = printed } in
        let P : ℕ → Type 0 = λ f. DoesAlone a s b (W f (slice_index b.regs (a.regs + r))) own in
        let Q : ℕ → Type 0 = λ v. DoesAlone a s b (W fd v) own in
        subst P (sym (fd-moved b within args h.0))
        (subst Q (sym (get_in_part b.regs a.regs s.regs r 0 (regs-there b within r h.1.there)))
        (with-both (R fd old).table r answer (R fd old).value (R fd old).count h.1.there h.2))
    call-moved call.Fgetc args answer target h =
        let mine = part a s b in
        let fd = slice_index mine.slots (slice_index args 0) in
        let A : ℕ → file.Answer = λ f. file.next_character files rows f in
        let own : Works = record { bank = record mine { regs = set mine.regs answer (A fd).answer }; table = (A fd).table; printed = printed } in
        let P : ℕ → Type 0 = λ f. DoesAlone a s b (record { bank = record b { regs = set b.regs (a.regs + answer) (A f).answer }; table = (A f).table; printed = printed }) own in
        subst P (sym (fd-moved b within args h.0)) (with-answer (A fd).table answer (A fd).answer h.1)
    call-moved call.Feof args answer target h =
        let mine = part a s b in
        let fd = slice_index mine.slots (slice_index args 0) in
        let own : Works = record { bank = record mine { regs = set mine.regs answer (file.at_end rows fd) }; table = rows; printed = printed } in
        let P : ℕ → Type 0 = λ f. DoesAlone a s b (record { bank = record b { regs = set b.regs (a.regs + answer) (file.at_end rows f) }; table = rows; printed = printed }) own in
        subst P (sym (fd-moved b within args h.0)) (with-answer rows answer (file.at_end rows fd) h.1)
    call-moved call.Fclose args answer target h =
        let mine = part a s b in
        let fd = slice_index mine.slots (slice_index args 0) in
        let own : Works = record { bank = mine; table = file.closed rows fd; printed = printed } in
        let P : ℕ → Type 0 = λ f. DoesAlone a s b (record { bank = b; table = file.closed rows f; printed = printed }) own in
        subst P (sym (fd-moved b within args h)) (same-bank (file.closed rows fd) printed printed refl)
    call-moved (call.ReadHex name w first last) args answer None h = absurd h
    call-moved (call.ReadHex name w first last) args answer (Some m) h = with-words (file.contents files name) w first last name args answer m h.there

    pub trap-moved : (t : Trap) → IsTrap (part a s b) t → DoesAlone a s b (served files (numbered_trap (behind a) t) here) (served files t alone)
    trap-moved t h = call-moved t.call t.args t.answer t.target h

  -- ---- traps that can be served

  module _ (b : BankData) (within : IsWithin a s (shape_of b)) where
    variable-moved : (w r : ℕ) → IsVariable (part a s b) w r → IsVariable b w (a.regs + r)
    variable-moved w r h =
        let P : ℕ → Type 0 = λ v. v < 2 ^ w in
        record { width = h.width; there = answer-there b within r h.there; fits = subst P (sym (get_in_part b.regs a.regs s.regs r 0 (regs-there b within r h.there))) h.fits }

    memory-moved : (w n m : ℕ) → IsMemory (part a s b) w n m → IsMemory b w n (a.mems + m)
    memory-moved w n m h =
        let lt = mems-there b within m h.there in
        record { width = h.width; there = omega (arith, lt, within.mems); many = ap (λ (ws : List ℕ). length ws) (get_in_part b.mems a.mems s.mems m [] lt) ∙ h.many }

    can-serve : (c : TrapCall) (args : List ℕ) (answer : ℕ) (target : Option ℕ) → CanServe (part a s b) (trap c args answer target) c → CanServe b (numbered_trap (behind a) (trap c args answer target)) c
    can-serve (call.Print parts newline) args answer target h = values-moved b within parts args h
    can-serve call.Finish args answer target h = tt
    can-serve (call.Save name) args answer target h = tt
    can-serve (call.Fopen name) args answer target h = answer-there b within answer h
    can-serve (call.Fread w) args answer None h = absurd h.1
    can-serve (call.Fread w) args answer (Some r) h = (has-descriptor b within args h.0, variable-moved w r h.1, answer-there b within answer h.2)
    can-serve call.Fgetc args answer target h = (has-descriptor b within args h.0, answer-there b within answer h.1)
    can-serve call.Feof args answer target h = (has-descriptor b within args h.0, answer-there b within answer h.1)
    can-serve call.Fclose args answer target h = has-descriptor b within args h
    can-serve (call.ReadHex name w first last) args answer None h = absurd h
    can-serve (call.ReadHex name w first last) args answer (Some m) h = memory-moved w (range_width first last) m h

    pub is-trap-moved : (t : Trap) → IsTrap (part a s b) t → IsTrap b (numbered_trap (behind a) t)
    is-trap-moved t h = can-serve t.call t.args t.answer t.target h
