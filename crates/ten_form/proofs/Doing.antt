-- A served trap does its call.
use Rattle.std.proofs.Common.{◌≡◌, refl, sym, ap, ◌∙◌, subst, arith, ℕ, zero, suc, ◌+◌, ◌^◌, ◌<◌, ◌≤◌, Bool, true, false, List, [], ◌∷◌, ◌++◌, append-nil, map, length, Option, Some, None}
use Rattle.std.specs.Prelude.{◌↔◌, All, codes, if◌then◌else◌, slice_get, slice_set, slice_index, slice_index_or, replicate}
use Rattle.std.specs.List.{AllByRecursion}
use Rattle.std.proofs.Math.Pow.{pow_pos}
use Rattle.std.proofs.lemmas.List.{get_or-set_other, length-set, length-map, length-replicate}
use Rattle.std.proofs.lemmas.List.Elements.{recursion_from_All}
use Rattle.std.proofs.lemmas.Option.{slice_get_within}
use Rattle.vl_design.specs.vl_base.specs.declared.files.File.{File}
use Rattle.vl_design.specs.vl_base.specs.declared.files.OpenFile.{OpenFile}
use Rattle.vl_design.specs.vl_base.specs.Files as file
use Rattle.vl_design.specs.vl_base.specs.Value.{reading}
use Rattle.vl_design.specs.vl_base.proofs.Congruent.{wrapped-below}
use Rattle.vl_design.specs.Functions.{scope_of, zeros}
use Rattle.vl_design.specs.ReadHex.{words_read}
use Rattle.vl_design.specs.Rows.{lower_of, range_width}
use Rattle.vl_design.specs.Sound.{IsSoundExp, IsSoundPiece, IsOf, IsMem}
use Rattle.vl_design.specs.State.{State, sample}
use Rattle.vl_design.specs.Syntax.{Exp, Piece, Literal, Shown, Row, Task, Print, Finish, Save, Fopen, Fread, Fgetc, Feof, Fclose, ReadHex, Flat}
use Rattle.vl_design.specs.Tasks.{called, descriptor_of, piece_text, pieces_text, memory_read}
use Rattle.vl_design.specs.Value.{Sample, own_value, value_of, words_of}
use Rattle.vl_design.specs.Width.{Scope, Names, form, names_of, signal_form}
use Rattle.vl_eval.proofs.Widths.{form-width}
use Rattle.cell_emit.specs.cell_form.specs.Data.{BankData}
use Rattle.cell_emit.specs.cell_form.specs.Sound.{shape_of}
use Rattle.cell_emit.specs.cell_form.specs.declared.table.FormatPart.{FormatPart}
use Rattle.cell_emit.specs.cell_form.specs.declared.table.FormatPart.TheVariants as part
use Rattle.cell_emit.specs.cell_form.specs.declared.table.Trap.{Trap}
use Rattle.cell_emit.specs.cell_form.specs.declared.table.TrapCall.{TrapCall}
use Rattle.cell_emit.specs.cell_form.specs.declared.table.TrapCall.TheVariants as call
use Rattle.cell_emit.proofs.Assigning.{signal-there, signal-width}
use Rattle.trap_runtime.specs.declared.served.Served.{Served}
use Rattle.trap_runtime.specs.declared.served.Served.TheVariants as w
use Rattle.trap_runtime.specs.Served.{Works, served, served_call, held, parts_text, descriptor, variable_at, memory_at, with_memory, loaded, way_of}
use Rattle.trap_runtime.specs.Traps as traps
use Rattle.ten_form.specs.Banks.{HoldsState}
use Rattle.ten_form.specs.Registers.{work_register, register_count}
use Rattle.ten_form.specs.Asked.{shown, own_widths, asked}
use Rattle.ten_form.specs.Traps.{shown_text, item_widths}
use Rattle.ten_form.specs.Works.{works_of, HaveBytes, IsBefore, saved, DoesCall}
use Rattle.ten_form.proofs.Answering.{opened-small, character-small, count-small, end-small}
use Rattle.cell_emit.proofs.Below.{value-below}
use Rattle.ten_form.proofs.Serving.{cleared-kept, holds-same, holds-answer, holds-read, holds-loaded}

-- ---- what a display shows

shown-sound : (names : Names) (ps : List Piece) → AllByRecursion (IsSoundPiece names) ps → AllByRecursion (IsSoundExp names) (shown ps)
shown-sound names [] h = tt
shown-sound names (Literal text ∷ ps) h = shown-sound names ps h.1
shown-sound names (Shown format e ∷ ps) h = (h.0, shown-sound names ps h.1)

shown-is : (scope : Scope) (s : Sample) (ps : List Piece) → shown_text scope.names ps (map (own_value scope s) (shown ps)) ≡ pieces_text scope s ps
shown-is scope s [] = refl
shown-is scope s (Literal text ∷ ps) = ap (λ z. text ++ z) (shown-is scope s ps)
shown-is scope s (Shown format e ∷ ps) = ap (λ z. piece_text scope s (Shown format e) ++ z) (shown-is scope s ps)

own-below : (scope : Scope) (s : Sample) (e : Exp) → own_value scope s e < 2 ^ (form scope.names e).width
own-below scope s e = value-below scope s e (form scope.names e) (omega arith)

module _ (b : BankData) where
  have-values : (scope : Scope) (s : Sample) (parts : List FormatPart) (args : List ℕ) (es : List Exp) → item_widths parts ≡ own_widths scope.names es → map (slice_index b.slots) args ≡ map (own_value scope s) es →
      AllByRecursion (IsSoundExp scope.names) es → AllByRecursion (λ r. r < length b.slots) args → traps.HaveValues b parts args
  have-values scope s [] args es widths values sound there = tt
  have-values scope s (part.Lit text ∷ ps) args es widths values sound there = have-values scope s ps args es widths values sound there
  have-values scope s (part.Item letter least width signed ∷ ps) [] [] widths values sound there = let z : ⊥ = cc in absurd z
  have-values scope s (part.Item letter least width signed ∷ ps) [] (e ∷ es) widths values sound there = let z : ⊥ = cc in absurd z
  have-values scope s (part.Item letter least width signed ∷ ps) (r ∷ rs) [] widths values sound there = let z : ⊥ = cc in absurd z
  have-values scope s (part.Item letter least width signed ∷ ps) (r ∷ rs) (e ∷ es) widths values sound there =
      let wide : width ≡ (form scope.names e).width = cc in
      let value : slice_index b.slots r ≡ own_value scope s e = cc in
      let others : item_widths ps ≡ own_widths scope.names es = cc in
      let rest : map (slice_index b.slots) rs ≡ map (own_value scope s) es = cc in (
        record { width = rw wide (form-width scope.names e sound.0); there = there.0; fits = rw (wide, value) (own-below scope s e) },
        have-values scope s ps rs es others rest sound.1 there.1,
      )

  -- ---- a descriptor

  has-descriptor : (args : List ℕ) (v : ℕ) → map (slice_index b.slots) args ≡ v ∷ [] → v < 2 ^ 32 → AllByRecursion (λ r. r < length b.slots) args → traps.HasDescriptor b args
  has-descriptor [] v e l there = let z : ⊥ = cc in absurd z
  has-descriptor (r ∷ rs) v e l there =
      let value : slice_index b.slots r ≡ v = cc in
      record { width = record { wide = omega arith; narrow = omega arith }; there = there.0; fits = rw value l }

  descriptor-is : (args : List ℕ) (v : ℕ) → map (slice_index b.slots) args ≡ v ∷ [] → slice_index b.slots (slice_index args 0) ≡ v
  descriptor-is [] v e = let z : ⊥ = cc in absurd z
  descriptor-is (r ∷ rs) v e = let value : slice_index b.slots r ≡ v = cc in value

descriptor-below : (scope : Scope) (s : Sample) (fd : Exp) → descriptor_of scope s fd < 2 ^ 32
descriptor-below scope s fd = wrapped-below 32 (reading (form scope.names fd).signed (form scope.names fd).width (own_value scope s fd))

-- ---- before a call

module _ (d : Flat) (files : List File) (slots : ℕ) (t : Trap) (b : BankData) (s : State) (committed : List (List ℕ)) where
  Before : Task → Type 0
  Before task = IsBefore d files task slots t b s committed

  slots-there : (task : Task) → IsBefore d files task slots t b s committed → AllByRecursion (λ r. r < length b.slots) t.args
  slots-there task h = recursion_from_All (λ r. r < length b.slots) t.args (λ i e l. let below = h.trap.args i e l in let most = h.shape.slots in omega (arith, below, most))

  has-answer : (task : Task) → IsBefore d files task slots t b s committed → t.answer < length b.regs
  has-answer task h = let e = h.trap.answer in let m = h.shape.regs in omega (arith, e, m)

  given-descriptor : (task : Task) (fd : Exp) → IsBefore d files task slots t b s committed → asked (scope_of d files) (sample s) task ≡ descriptor_of (scope_of d files) (sample s) fd ∷ [] → traps.HasDescriptor b t.args
  given-descriptor task fd h e = has-descriptor b t.args (descriptor_of (scope_of d files) (sample s) fd) (h.args ∙ e) (descriptor-below (scope_of d files) (sample s) fd) (slots-there task h)

  -- the variable of `$fread`
  variable-held : (k : ℕ) (fd : Exp) → IsBefore d files (Fread k fd) slots t b s committed → slice_index b.regs (work_register k) ≡ value_of s.values k
  variable-held k fd h = h.holds.signals.works k h.sound.0 ∙ ap (λ (z : List ℕ). slice_index z 0) (cleared-kept d.rows s.values k h.variable (signal-there d.rows k h.sound.0))

  value-small : (k : ℕ) (fd : Exp) → IsBefore d files (Fread k fd) slots t b s committed → value_of s.values k < 2 ^ (signal_form d.rows k).width
  value-small k fd h = at (words_of s.values k) (h.fine.range k)
    where
      at : (ws : List ℕ) → All (λ v. v < 2 ^ (signal_form d.rows k).width) ws → slice_index ws 0 < 2 ^ (signal_form d.rows k).width
      at [] h = pow_pos (signal_form d.rows k).width
      at (v ∷ vs) h = h 0 0 (omega arith)

  variable-there : (k : ℕ) (fd : Exp) → IsBefore d files (Fread k fd) slots t b s committed → work_register k < length b.regs
  variable-there k fd h = let m = h.shape.regs in let l = signal-there d.rows k h.sound.0 in omega (arith, m, l)

  -- the memory of `$readmemh`
  memory-long : (m : ℕ) (r : Row) (name : List ℕ) → slice_get d.rows m ≡ Some r → IsBefore d files (ReadHex name m) slots t b s committed → length (slice_index_or b.mems m []) ≡ r.words
  memory-long m r name e h =
      ap (λ (z : List ℕ). length z) (h.holds.memories m h.sound)
      ∙ (h.fine.shape.words m
      ∙ (ap (λ (z : List ℕ). length z) (zeros-words d.rows m r e) ∙ length-replicate r.words 0))
    where
      zeros-words : (rows : List Row) (m : ℕ) (r : Row) → slice_get rows m ≡ Some r → words_of (zeros rows) m ≡ replicate r.words 0
      zeros-words [] m r e = let z : ⊥ = cc in absurd z
      zeros-words (x ∷ rows) zero r e = let same : x ≡ r = cc in ap (λ (z : Row). replicate {A = ℕ} z.words 0) same
      zeros-words (x ∷ rows) (suc m) r e = zeros-words rows m r e

  pub can : (task : Task) → IsBefore d files task slots t b s committed → traps.IsTrap b t
  can (Print pieces newline) h =
      let e = h.trap.call.1 in
      let prints = h.trap.call.2 in
      subst (traps.CanServe b t) (sym e)
      (have-values b (scope_of d files) (sample s) h.trap.call.0 t.args (shown pieces) prints.widths h.args
      (shown-sound (names_of d) pieces (recursion_from_All (IsSoundPiece (names_of d)) pieces h.sound)) (slots-there (Print pieces newline) h))
  can (Finish es) h = subst (traps.CanServe b t) (sym h.trap.call) tt
  can (Save name) h = subst (traps.CanServe b t) (sym h.trap.call) tt
  can (Fopen name) h = subst (traps.CanServe b t) (sym h.trap.call) (has-answer (Fopen name) h)
  can (Fread k fd) h =
      let width = (signal_form d.rows k).width in
      let variable : traps.HasVariable b width (Some (work_register k)) = record {
        width = signal-width (names_of d) k h.sound.0;
        there = variable-there k fd h;
        fits = rw (variable-held k fd h) (value-small k fd h);
      } in
      subst (traps.CanServe b t) (sym h.trap.call.0)
      (given-descriptor (Fread k fd) fd h refl, subst (traps.HasVariable b width) (sym h.trap.call.1) variable, has-answer (Fread k fd) h)
  can (Fgetc fd) h = subst (traps.CanServe b t) (sym h.trap.call) (given-descriptor (Fgetc fd) fd h refl, has-answer (Fgetc fd) h)
  can (Feof fd) h = subst (traps.CanServe b t) (sym h.trap.call) (given-descriptor (Feof fd) fd h refl, has-answer (Feof fd) h)
  can (Fclose fd) h = subst (traps.CanServe b t) (sym h.trap.call) (given-descriptor (Fclose fd) fd h refl)
  can (ReadHex name m) h =
      let c = h.trap.call in
      let range = c.7 in
      let memory : traps.HasMemory b c.0 (range_width c.1 c.2) (Some m) = record {
        width = rw range.width (subst (IsOf IsMem) c.6 h.sound).1;
        there = let l = slice_get_within d.rows m c.3 c.6 in let n = h.shape.mems in omega (arith, l, n);
        many = memory-long m c.3 name c.6 h ∙ sym range.words;
      } in
      subst (traps.CanServe b t) (sym c.4) (subst (traps.HasMemory b c.0 (range_width c.1 c.2)) (sym c.5) memory)

  -- ---- a call that is done

  -- the run goes on
  going : (way : Served) (finished : Bool) → finished ≡ false → (way ≡ w.Finish → ⊥) → (way ≡ w.Finish) ↔ (finished ≡ true)
  going way finished f apart = (λ e. absurd (apart e), λ e. (let z : ⊥ = cc in absurd z))

  no-finish : w.Went ≡ w.Finish → ⊥
  no-finish e = cc

  shape-set : (r v : ℕ) → shape_of (record b { regs = slice_set b.regs r v }) ≡ shape_of b
  shape-set r v = ap (λ n. record { regs = n; mems = length b.mems; slots = length b.slots }) (length-set b.regs r v)

  -- what the served trap leaves, by its call
  leaves : (task : Task) (c : TrapCall) (y : Works) → IsBefore d files task slots t b s committed → t.call ≡ c → served_call files t c (works_of b s) ≡ y →
      HoldsState d y.bank (called (scope_of d files) task s) committed → shape_of y.bank ≡ shape_of b →
      ((r : ℕ) → register_count (length d.rows) ≤ r → slice_index y.bank.regs r ≡ slice_index b.regs r) → y.table ≡ (called (scope_of d files) task s).table → y.printed ≡ (called (scope_of d files) task s).printed →
      ((way_of c ≡ w.Finish) ↔ ((called (scope_of d files) task s).finished ≡ true)) → (called (scope_of d files) task s).saves ≡ s.saves ++ saved (way_of c) →
      DoesCall d files task t b s committed
  leaves task c y h e same bank shape stores table printed finishes saves =
      let is : served files t (works_of b s) ≡ y = ap (λ z. served_call files t z (works_of b s)) e ∙ same in
      record {
        bank = rw is bank;
        shape = ap (λ (z : Works). shape_of z.bank) is ∙ shape;
        stores = λ r l. ap (λ (z : Works). slice_index z.bank.regs r) is ∙ stores r l;
        table = ap (λ (z : Works). z.table) is ∙ table;
        printed = ap (λ (z : Works). z.printed) is ∙ printed;
        finishes = rw e finishes;
        saves = rw e saves;
      }

  -- the descriptor that the trap is given
  fd-is : (task : Task) (fd : Exp) → IsBefore d files task slots t b s committed → asked (scope_of d files) (sample s) task ≡ descriptor_of (scope_of d files) (sample s) fd ∷ [] → descriptor b t ≡ descriptor_of (scope_of d files) (sample s) fd
  fd-is task fd h e = descriptor-is b t.args (descriptor_of (scope_of d files) (sample s) fd) (h.args ∙ e)

  print-does : (pieces : List Piece) (newline : Bool) → IsBefore d files (Print pieces newline) slots t b s committed → DoesCall d files (Print pieces newline) t b s committed
  print-does pieces newline h =
      let parts = h.trap.call.0 in
      let prints = h.trap.call.2 in
      let scope = scope_of d files in
      let text : parts_text parts (held b t.args) ≡ pieces_text scope (sample s) pieces =
      prints.text (held b t.args) ∙ (ap (shown_text (names_of d) pieces) h.args ∙ shown-is scope (sample s) pieces) in
      leaves (Print pieces newline) (call.Print parts newline) (served_call files t (call.Print parts newline) (works_of b s)) h h.trap.call.1 refl
      (holds-same d committed b s (called scope (Print pieces newline) s) refl refl refl refl h.holds) refl (λ r l. refl) refl
      (ap (λ z. s.printed ++ (z ++ (if newline then codes "\n" else []))) text) (going w.Went s.finished h.goes_on no-finish) (sym (append-nil s.saves))

  -- a call that gives an answer, and may change the table
  answers : (task : Task) (c : TrapCall) (table : List OpenFile) (v : ℕ) → IsBefore d files task slots t b s committed → t.call ≡ c →
      served_call files t c (works_of b s) ≡ record { bank = record b { regs = slice_set b.regs t.answer v }; table = table; printed = s.printed } →
      called (scope_of d files) task s ≡ record s { table = table; answer = v; count = s.count + 1 } → v < 2 ^ 32 → way_of c ≡ w.Went → DoesCall d files task t b s committed
  answers task c table v h e same is small went =
      let s' = called (scope_of d files) task s in
      let l : 1 < length b.regs = (let a = has-answer task h in let e = h.trap.answer in omega (arith, a, e)) in
      leaves task c (record { bank = record b { regs = slice_set b.regs t.answer v }; table = table; printed = s.printed }) h e same
      (holds-answer d committed b s s' t.answer v h.trap.answer l small (ap (λ (z : State). z.values) is) (ap (λ (z : State). z.later) is) (ap (λ (z : State). z.ticks) is) (ap (λ (z : State). z.answer) is) h.holds)
      (shape-set t.answer v) (λ r m. get_or-set_other b.regs t.answer r v 0 (λ z. (let a = h.trap.answer in omega (arith, z, m, a)))) (sym (ap (λ (z : State). z.table) is)) (sym (ap (λ (z : State). z.printed) is))
      (going (way_of c) s'.finished (ap (λ (z : State). z.finished) is ∙ h.goes_on) (λ z. no-finish (sym went ∙ z)))
      (ap (λ (z : State). z.saves) is ∙ (sym (append-nil s.saves) ∙ ap (λ z. s.saves ++ saved z) (sym went)))

  read-does : (k : ℕ) (fd : Exp) → IsBefore d files (Fread k fd) slots t b s committed → DoesCall d files (Fread k fd) t b s committed
  read-does k fd h =
      let scope = scope_of d files in
      let s' = called scope (Fread k fd) s in
      let width = (signal_form d.rows k).width in
      let r = file.read files s.table (descriptor_of scope (sample s) fd) width (value_of s.values k) in
      let wide = signal-width (names_of d) k h.sound.0 in
      let old : variable_at b t.target ≡ value_of s.values k = ap (variable_at b) h.trap.call.1 ∙ variable-held k fd h in
      let bank = record b { regs = slice_set (slice_set b.regs (work_register k) r.value) t.answer r.count } in
      let same : served_call files t (call.Fread width) (works_of b s) ≡ record { bank = bank; table = r.table; printed = s.printed } =
      rw (fd-is (Fread k fd) fd h refl, old, h.trap.call.1) refl in
      leaves (Fread k fd) (call.Fread width) (record { bank = bank; table = r.table; printed = s.printed }) h h.trap.call.0 same
      (holds-read d committed b s s' t.answer (work_register k) r.value r.count k h.trap.answer refl (variable-there k fd h) (count-small files s.table (descriptor_of scope (sample s) fd) width (value_of s.values k) wide.narrow)
      h.one_word h.fine h.sound.0 h.variable refl refl refl refl h.holds)
      (ap (λ n. record { regs = n; mems = length b.mems; slots = length b.slots }) (length-set (slice_set b.regs (work_register k) r.value) t.answer r.count ∙ length-set b.regs (work_register k) r.value))
      (λ j m. get_or-set_other (slice_set b.regs (work_register k) r.value) t.answer j r.count 0 (λ z. (let a = h.trap.answer in omega (arith, z, m, a)))
      ∙ get_or-set_other b.regs (work_register k) j r.value 0 (λ z. (let l = signal-there d.rows k h.sound.0 in omega (arith, z, m, l))))
      refl refl (going w.Went s.finished h.goes_on no-finish) (sym (append-nil s.saves))

  load-does : (name : List ℕ) (m : ℕ) → IsBefore d files (ReadHex name m) slots t b s committed → DoesCall d files (ReadHex name m) t b s committed
  load-does name m h = at (file.contents files name) refl
    where
      at : (o : Option (List ℕ)) → file.contents files name ≡ o → DoesCall d files (ReadHex name m) t b s committed
      at None e =
          let s' = called (scope_of d files) (ReadHex name m) s in
          let loading = call.ReadHex name h.trap.call.0 h.trap.call.1 h.trap.call.2 in
          let same : served_call files t loading (works_of b s) ≡ works_of b s = ap (λ z. record (works_of b s) { bank = loaded z h.trap.call.0 h.trap.call.1 h.trap.call.2 t b }) e in
          let is : s' ≡ record s { count = s.count + 1 } =
          ap (λ z. (let y = memory_read m z (file.contents files name) s in record y { count = y.count + 1 })) h.trap.call.6
          ∙ ap (λ z. (let y = memory_read m (Some h.trap.call.3) z s in record y { count = y.count + 1 })) e in
          leaves (ReadHex name m) loading (works_of b s) h h.trap.call.4 same
          (holds-same d committed b s s' (ap (λ (z : State). z.values) is) (ap (λ (z : State). z.later) is) (ap (λ (z : State). z.ticks) is) (ap (λ (z : State). z.answer) is) h.holds)
          refl (λ r l. refl) (sym (ap (λ (z : State). z.table) is)) (sym (ap (λ (z : State). z.printed) is))
          (going w.Went s'.finished (ap (λ (z : State). z.finished) is ∙ h.goes_on) no-finish)
          (ap (λ (z : State). z.saves) is ∙ sym (append-nil s.saves))
      at (Some text) e =
          let s' = called (scope_of d files) (ReadHex name m) s in
          let loading = call.ReadHex name h.trap.call.0 h.trap.call.1 h.trap.call.2 in
          let range = h.trap.call.7 in
          let ws = words_read h.trap.call.3.width h.trap.call.3.lowest h.trap.call.3.words text (words_of s.values m) in
          let bank = record b { mems = slice_set b.mems m ws } in
          let read : words_read h.trap.call.0 (lower_of h.trap.call.1 h.trap.call.2) (range_width h.trap.call.1 h.trap.call.2) text (slice_index_or b.mems m []) ≡ ws =
          rw (range.width, range.lowest, range.words, h.holds.memories m h.sound) refl in
          let same : served_call files t loading (works_of b s) ≡ record { bank = bank; table = s.table; printed = s.printed } =
          ap (λ z. record (works_of b s) { bank = loaded z h.trap.call.0 h.trap.call.1 h.trap.call.2 t b }) e
          ∙ (ap (λ z. record (works_of b s) { bank = with_memory z (words_read h.trap.call.0 (lower_of h.trap.call.1 h.trap.call.2) (range_width h.trap.call.1 h.trap.call.2) text (memory_at b z)) b }) h.trap.call.5
          ∙ ap (λ z. record (works_of b s) { bank = record b { mems = slice_set b.mems m z } }) read) in
          let is : s' ≡ record s { values = slice_set s.values m ws; count = s.count + 1 } =
          ap (λ z. (let y = memory_read m z (file.contents files name) s in record y { count = y.count + 1 })) h.trap.call.6
          ∙ ap (λ z. (let y = memory_read m (Some h.trap.call.3) z s in record y { count = y.count + 1 })) e in
          let in-bank : m < length b.mems = (let l = slice_get_within d.rows m h.trap.call.3 h.trap.call.6 in let n = h.shape.mems in omega (arith, l, n)) in
          let in-values : m < length s.values =
          (let l = slice_get_within d.rows m h.trap.call.3 h.trap.call.6 in let n = h.fine.shape.many in let k = length-map d.rows (λ (r : Row). replicate {A = ℕ} r.words 0) in omega (arith, l, n, k)) in
          leaves (ReadHex name m) loading (record { bank = bank; table = s.table; printed = s.printed }) h h.trap.call.4 same
          (holds-loaded d committed b s s' m ws in-bank in-values h.sound (ap (λ (z : State). z.values) is) (ap (λ (z : State). z.later) is) (ap (λ (z : State). z.ticks) is) (ap (λ (z : State). z.answer) is) h.holds)
          (ap (λ n. record { regs = length b.regs; mems = n; slots = length b.slots }) (length-set b.mems m ws))
          (λ r l. refl)
          (sym (ap (λ (z : State). z.table) is)) (sym (ap (λ (z : State). z.printed) is))
          (going w.Went s'.finished (ap (λ (z : State). z.finished) is ∙ h.goes_on) no-finish)
          (ap (λ (z : State). z.saves) is ∙ sym (append-nil s.saves))

  pub does : (task : Task) → HaveBytes files → IsBefore d files task slots t b s committed → DoesCall d files task t b s committed
  does (Print pieces newline) bytes h = print-does pieces newline h
  does (Finish es) bytes h =
      leaves (Finish es) call.Finish (works_of b s) h h.trap.call refl (holds-same d committed b s (called (scope_of d files) (Finish es) s) refl refl refl refl h.holds) refl (λ r l. refl) refl refl
      ((λ e. refl), (λ e. refl)) (sym (append-nil s.saves))
  does (Save name) bytes h =
      leaves (Save name) (call.Save name) (works_of b s) h h.trap.call refl (holds-same d committed b s (called (scope_of d files) (Save name) s) refl refl refl refl h.holds) refl (λ r l. refl) refl refl
      (going (w.Save name) s.finished h.goes_on (λ e. cc)) refl
  does (Fopen name) bytes h =
      let a = file.opened files s.table name in
      answers (Fopen name) (call.Fopen name) a.table a.answer h h.trap.call refl refl (opened-small files s.table name) refl
  does (Fread k fd) bytes h = read-does k fd h
  does (Fgetc fd) bytes h =
      let scope = scope_of d files in
      let a = file.next_character files s.table (descriptor_of scope (sample s) fd) in
      let same = fd-is (Fgetc fd) fd h refl in
      answers (Fgetc fd) call.Fgetc a.table a.answer h h.trap.call (rw same refl) refl (character-small files s.table (descriptor_of scope (sample s) fd) bytes) refl
  does (Feof fd) bytes h =
      let scope = scope_of d files in
      let same = fd-is (Feof fd) fd h refl in
      answers (Feof fd) call.Feof s.table (file.at_end s.table (descriptor_of scope (sample s) fd)) h h.trap.call (rw same refl) refl (end-small s.table (descriptor_of scope (sample s) fd)) refl
  does (Fclose fd) bytes h =
      let scope = scope_of d files in
      let same = fd-is (Fclose fd) fd h refl in
      leaves (Fclose fd) call.Fclose (record { bank = b; table = file.closed s.table (descriptor_of scope (sample s) fd); printed = s.printed }) h h.trap.call (rw same refl)
      (holds-same d committed b s (called scope (Fclose fd) s) refl refl refl refl h.holds) refl (λ r l. refl) refl refl (going w.Went s.finished h.goes_on no-finish) (sym (append-nil s.saves))
  does (ReadHex name m) bytes h = load-does name m h
