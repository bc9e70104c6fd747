-- Each actor's calls are those of its lines, with the answers of the replies.
use Rattle.std.proofs.Common.{◌≡◌, ℕ, zero, suc, ◌<◌, ◌≤◌, Bool, true, false, List, [], ◌∷◌, ◌++◌, Option, None, Ok, Err, refl, ap, sym, ◌∙◌, subst, arith, filter, append-nil, ⊎_elim}
use Rattle.std.specs.Prelude.{All, ◌≢◌, ◌==◌, Result, not, replicate, slice_get}
use Rattle.std.proofs.lemmas.Bool.{cases_lt, eq-eqb, ne_eqb}
use Rattle.std.proofs.lemmas.List.Elements.{All-head, All-tail}
use Rattle.uv_num.specs.declared.errno.Errno.{Errno}
use Rattle.uv_num.specs.declared.limits.TheConstants.{ACTOR_PLACES, CLIENTS, DRIVER, ENDER}
use Rattle.uv_machine.specs.Histories.{IsLegal}
use Rattle.uv_graph.specs.Seats.{slot_of}
use Rattle.uv_report.specs.declared.saying.Saying.{Saying}
use Rattle.uv_script.specs.declared.form.Deed.{Deed}
use Rattle.uv_script.specs.declared.form.Deed.TheVariants as deed
use Rattle.uv_script.specs.declared.form.Form.{Form}
use Rattle.uv_script.specs.declared.form.Form.TheVariants as form
use Rattle.uv_script.specs.declared.form.Line.{Line}
use Rattle.uv_script.specs.Ranges.{HasRanges, IsInRange, MayDo}
use Rattle.uv_run.specs.declared.flight.Task.{Task}
use Rattle.uv_run.specs.declared.reply.Telling.TheVariants as telling
use Rattle.uv_run.specs.Asking.{Asking, asking_of, task_of}
use Rattle.uv_run.specs.Chains.{Chain}
use Rattle.uv_run.specs.DataPath.{Shown, after_shown, data_shown}
use Rattle.uv_run.specs.Follows.{AnswersAll, ClosesEnd, EndsAll, RunsOutAll, all_actors, is_asked_by, start_stand}
use Rattle.uv_run.specs.Follows.AreAnswered.{Nothing}
use Rattle.uv_run.specs.Lines.{BeginsTask, ClosesIf, ClosesOwn, PlaysAll, PlaysForm, PlaysNext, RunsTask, Told, all_files, plus_line}
use Rattle.uv_run.specs.Site.{closes, is_busy, start_site}
use Rattle.uv_run.specs.Stand.{Stand, after_turned, with_begun, with_said}
use Rattle.uv_run.specs.Turns.{RunsOut, after_waiting, awaited}
use Rattle.uv_run.proofs.BeginSeats.{all_but, all_told, begins_seated, close_quiet, seat_rests, seated_begun, seated_loud, seated_quiet}
use Rattle.uv_run.proofs.Seated.{SeatOf, SeatedAt, event_seated, out_seated, waiting_seated}
use Rattle.uv_run.proofs.Sitting.{asked_other}
use Rattle.uv_run.proofs.Sitting.Sits.{Rests, InCall, InTear}

-- Lines.

said_seated : (U : ℕ → Bool) (asked : List Asking) (s : Stand) (n : ℕ) (text : Saying) → SeatedAt U asked s → SeatedAt U asked (with_said s n text)
said_seated U asked s n text all legal = let seated = all legal in record { sits = seated.sits; begun = seated.begun; teardowns = seated.teardowns }

shown_seated : (U : ℕ → Bool) (asked : List Asking) (s : Stand) (n : ℕ) (d : Shown) → SeatedAt U asked s → SeatedAt U asked (after_shown s n d)
shown_seated U asked s n d all legal = let seated = all legal in record { sits = seated.sits; begun = seated.begun; teardowns = seated.teardowns }

asks_none : (asked : List Asking) (s : Stand) → SeatedAt all_told asked s → SeatedAt all_told (asked ++ []) s
asks_none asked s all = let P : List Asking → Type 0 = λ v. SeatedAt all_told v s in subst P (sym (append-nil asked)) all

loud_out : (asked : List Asking) (s : Stand) (a : ℕ) (s' : Stand) → RunsOut telling.ToEnd s a s' → SeatedAt all_told asked s → SeatedAt all_told asked s'
loud_out asked s a s' runs all = out_seated all_told asked a (λ b ne. refl) telling.ToEnd refl s s' runs all

run_seated :
    (asked : List Asking) (s : Stand) (n a : ℕ) (r : Result Task Errno) (s' : Stand) → a < ACTOR_PLACES → is_busy s.site a ≡ false → RunsTask s n a r s' → SeatedAt all_told asked s → SeatedAt all_told (asked ++ asking_of n a r) s'
run_seated asked s n a (Ok t) s' low idle runs all =
    let b = runs.begins in
    let now : List Asking = asked ++ asking_of n a (Ok t) in
    let begun = begins_seated asked telling.ToEnd s n a t b.turned refl low b.begins idle all in
    let waited = waiting_seated all_told now a (λ c ne. refl) (awaited b.turned.heard.event) (after_turned telling.ToEnd (with_begun s a n) a n b.turned) begun in
    let P : Stand → Type 0 = λ v. SeatedAt all_told now v in
    loud_out now runs.begun a s' runs.runs (subst P (sym b.stand) waited)
run_seated asked s n a (Err e) s' low idle same all =
    let P : Stand → Type 0 = λ v. SeatedAt all_told (asked ++ []) v in
    subst P (sym same) (asks_none asked _ (said_seated all_told asked s n _ all))

begin_seated :
    (asked : List Asking) (s : Stand) (n a : ℕ) (r : Result Task Errno) (s' : Stand) → a < ACTOR_PLACES → is_busy s.site a ≡ false → BeginsTask s n a r s' → SeatedAt all_told asked s → SeatedAt all_told (asked ++ asking_of n a r) s'
begin_seated asked s n a (Ok t) s' low idle begins all =
    let P : Stand → Type 0 = λ v. SeatedAt all_told (asked ++ asking_of n a (Ok t)) v in
    subst P (sym begins.stand) (begins_seated asked (telling.Plus n) s n a t begins.turned refl low begins.begins idle all)
begin_seated asked s n a (Err e) s' low idle same all =
    let P : Stand → Type 0 = λ v. SeatedAt all_told (asked ++ []) v in
    subst P (sym same) (asks_none asked _ (said_seated all_told asked s n _ all))

plus_seated : (asked : List Asking) (v : Bool) (s : Stand) (n a : ℕ) → SeatedAt all_told asked s → SeatedAt all_told asked (plus_line v s n a)
plus_seated asked true s n a all = event_seated all_told asked (telling.Plus n) s a refl all
plus_seated asked false s n a all = said_seated all_told asked s n _ all

-- Deaths.

but_usual : (a b : ℕ) → b ≢ a → all_but a b ≡ true
but_usual a b ne = ap not (ne_eqb b a ne)

but_own : (a : ℕ) → all_but a a ≡ false
but_own a = ap not (eq-eqb a a refl)

-- an actor with nothing in flight, and whose close isn't told
record Hushed (asked : List Asking) (a : ℕ) (s : Stand) : Type 0 where
  pub seated : SeatedAt (all_but a) asked s
  pub idle : is_busy s.site a ≡ false

close_hushed : (asked : List Asking) (v : Bool) (s : Stand) (n c f : ℕ) (s' : Stand) → ClosesIf v s n c f s' → Hushed asked c s → Hushed asked c s'
close_hushed asked true s n c f s' runs hushed =
    let closed = close_quiet asked telling.Dying (with_begun s c n) c n f refl (seated_begun asked s c n hushed.seated) in
    let t = closes s.site c f in
    let waited = waiting_seated (all_but c) asked c (but_usual c) (awaited t.heard.event) (after_turned telling.Dying (with_begun s c n) c n t) closed in
    record { seated = out_seated (all_but c) asked c (but_usual c) telling.Dying (but_own c) (after_waiting telling.Dying (with_begun s c n) c n t) s' runs waited; idle = runs.ended }
close_hushed asked false s n c f s' same hushed = subst (Hushed asked c) (sym same) hushed

own_hushed : (asked : List Asking) (n c : ℕ) (s : Stand) (files : List ℕ) (s' : Stand) → Chain (ClosesOwn n c) s files s' → Hushed asked c s → Hushed asked c s'
own_hushed asked n c s [] s' same hushed = subst (Hushed asked c) (sym same) hushed
own_hushed asked n c s (f ∷ files) s' links hushed = own_hushed asked n c links.mid files s' links.others (close_hushed asked _ s n c f links.mid links.link hushed)

-- One line.

client_low : (a : ℕ) → a ≤ CLIENTS → a < ACTOR_PLACES
client_low a low = omega (arith, low)

-- who may do something is a client or the driver
record Acts (a : ℕ) : Type 0 where
  pub first : 1 ≤ a
  pub last : a ≤ DRIVER

acts : (a : ℕ) (d : Deed) → MayDo a d → Acts a
acts a (deed.Open f dev) may = let c = may.0.client in record { first = c.first; last = omega (arith, c.last) }
acts a (deed.Call f verb) may = let c = may.client in record { first = c.first; last = omega (arith, c.last) }
acts a (deed.Refused e) may = record { first = may.first; last = omega (arith, may.last) }
acts a (deed.Close f) may = let c = may.client in record { first = c.first; last = omega (arith, c.last) }
acts a (deed.Unplug dev) may = record { first = omega (arith, may.0); last = omega (arith, may.0) }

acts_low : (a : ℕ) → Acts a → a < ACTOR_PLACES
acts_low a acts = omega (arith, acts.last)

form_seated : (asked more : List Asking) (s : Stand) (n : ℕ) (x : Form) (s' : Stand) → HasRanges x → PlaysForm s n x s' more → SeatedAt all_told asked s → SeatedAt all_told (asked ++ more) s'
form_seated asked more s n (form.Plain a d) s' range p all =
    let P : List Asking → Type 0 = λ v. SeatedAt all_told (asked ++ v) s' in
    subst P (sym p.goes.1) (run_seated asked p.ready n a (task_of p.ready.replies d) s' (acts_low a (acts a d range)) p.runs.ended p.goes.0 (loud_out asked s a p.ready p.runs all))
form_seated asked more s n (form.Minus a d) s' range p all =
    let P : List Asking → Type 0 = λ v. SeatedAt all_told (asked ++ v) s' in
    subst P (sym p.goes.1) (begin_seated asked p.ready n a (task_of p.ready.replies d) s' (acts_low a (acts a d range)) p.runs.ended p.goes.0 (loud_out asked s a p.ready p.runs all))
form_seated asked more s n (form.Plus a) s' range p all =
    let P : List Asking → Type 0 = λ v. SeatedAt all_told (asked ++ v) s' in
    let Q : Stand → Type 0 = λ v. SeatedAt all_told asked v in
    subst P (sym p.1) (asks_none asked s' (subst Q (sym p.0) (plus_seated asked (is_busy s.site a) s n a all)))
form_seated asked more s n (form.Die c) s' range p all =
    let P : List Asking → Type 0 = λ v. SeatedAt all_told (asked ++ v) s' in
    let Q : Stand → Type 0 = λ v. SeatedAt all_told asked v in
    let ready = p.0.ready in
    let d = p.0.goes in
    let quiet = seated_quiet asked ready c (λ legal sits. seat_rests asked ready c legal p.0.runs.ended sits) (loud_out asked s c ready p.0.runs all) in
    let closed = own_hushed asked n c ready all_files d.closed d.closes (record { seated = quiet; idle = p.0.runs.ended }) in
    subst P (sym p.1) (asks_none asked s' (subst Q (sym d.told) (said_seated all_told asked d.closed n _ (seated_loud asked d.closed c closed.idle closed.seated))))
form_seated asked more s n (form.Data c call) s' range p all =
    let P : List Asking → Type 0 = λ v. SeatedAt all_told (asked ++ v) s' in
    let Q : Stand → Type 0 = λ v. SeatedAt all_told asked v in
    let ready = p.0.ready in
    subst P (sym p.1) (asks_none asked s' (subst Q (sym p.0.goes) (shown_seated all_told asked ready n (data_shown ready.site.held ready.replies call) (loud_out asked s c ready p.0.runs all))))

-- All lines.

lines_seated : (t : Told) (lines : List Line) (t' : Told) → All IsInRange lines → Chain PlaysNext t lines t' → SeatedAt all_told t.asked t.stand → SeatedAt all_told t'.asked t'.stand
lines_seated t [] t' ranges same all = let P : Told → Type 0 = λ v. SeatedAt all_told v.asked v.stand in subst P (sym same) all
lines_seated t (l ∷ lines) t' ranges links all =
    let next = links.link in
    let P : List Asking → Type 0 = λ v. SeatedAt all_told v links.mid.stand in
    lines_seated links.mid lines t' (All-tail IsInRange l lines ranges) links.others
    (subst P (sym next.asks) (form_seated t.asked next.more t.stand l.number l.form links.mid.stand (All-head IsInRange l lines ranges) next.plays all))

-- nobody else asks for anything
abbrev Outside : ℕ → List Asking → Type 0
Outside c asked = filter (is_asked_by c) asked ≡ []

outside_one : (c : ℕ) (asked : List Asking) (n a : ℕ) (r : Result Task Errno) → c ≢ a → Outside c asked → Outside c (asked ++ asking_of n a r)
outside_one c asked n a (Ok t) ne all = asked_other asked (record { line = n; actor = a; task = t }) c ne ∙ all
outside_one c asked n a (Err e) ne all = ap (filter (is_asked_by c)) (append-nil asked) ∙ all

module _ (c : ℕ) (apart : (a : ℕ) → Acts a → c ≢ a) where
  outside_form : (asked more : List Asking) (s : Stand) (n : ℕ) (x : Form) (s' : Stand) → HasRanges x → PlaysForm s n x s' more → Outside c asked → Outside c (asked ++ more)
  outside_form asked more s n (form.Plain a d) s' range p all = subst (λ v. Outside c (asked ++ v)) (sym p.goes.1) (outside_one c asked n a (task_of p.ready.replies d) (apart a (acts a d range)) all)
  outside_form asked more s n (form.Minus a d) s' range p all = subst (λ v. Outside c (asked ++ v)) (sym p.goes.1) (outside_one c asked n a (task_of p.ready.replies d) (apart a (acts a d range)) all)
  outside_form asked more s n (form.Plus a) s' range p all = subst (λ v. Outside c (asked ++ v)) (sym p.1) (ap (filter (is_asked_by c)) (append-nil asked) ∙ all)
  outside_form asked more s n (form.Die k) s' range p all = subst (λ v. Outside c (asked ++ v)) (sym p.1) (ap (filter (is_asked_by c)) (append-nil asked) ∙ all)
  outside_form asked more s n (form.Data k call) s' range p all = subst (λ v. Outside c (asked ++ v)) (sym p.1) (ap (filter (is_asked_by c)) (append-nil asked) ∙ all)

  outside_lines : (t : Told) (lines : List Line) (t' : Told) → All IsInRange lines → Chain PlaysNext t lines t' → Outside c t.asked → Outside c t'.asked
  outside_lines t [] t' ranges same all = subst (λ (v : Told). Outside c v.asked) (sym same) all
  outside_lines t (l ∷ lines) t' ranges links all =
      let next = links.link in
      outside_lines links.mid lines t' (All-tail IsInRange l lines ranges) links.others
      (subst (Outside c) (sym next.asks) (outside_form t.asked next.more t.stand l.number l.form links.mid.stand (All-head IsInRange l lines ranges) next.plays all))

snoc_not : (before : List Asking) (x : Asking) → [] ≡ before ++ x ∷ [] → ⊥
snoc_not [] x e = cc
snoc_not (y ∷ before) x e = cc

outside_rests : (asked : List Asking) (s : Stand) (c : ℕ) → Outside c asked → SeatOf true asked s c → SeatOf false asked s c
outside_rests asked s c none (Rests all e) = all
outside_rests asked s c none (InCall before x items f q is all line actor what now e) = absurd (snoc_not before x (sym none ∙ is))
outside_rests asked s c none (InTear before x is all line actor what busy) = absurd (snoc_not before x (sym none ∙ is))

-- The end.

finish_seated : (asked : List Asking) (s : Stand) (actors : List ℕ) (s' : Stand) → RunsOutAll telling.ToEnd s actors s' → SeatedAt all_told asked s → SeatedAt all_told asked s'
finish_seated asked s [] s' same all = let P : Stand → Type 0 = λ v. SeatedAt all_told asked v in subst P (sym same) all
finish_seated asked s (a ∷ actors) s' links all = finish_seated asked links.mid actors s' links.others (loud_out asked s a links.mid links.link all)

end_seated : (asked : List Asking) (v : Bool) (s : Stand) (f : ℕ) (s' : Stand) → ClosesEnd v s f s' → SeatedAt (all_but ENDER) asked s → SeatedAt (all_but ENDER) asked s'
end_seated asked true s f s' runs all =
    let t = closes s.site ENDER f in
    let closed = close_quiet asked telling.Ending s ENDER 0 f refl all in
    let waited = waiting_seated (all_but ENDER) asked ENDER (but_usual ENDER) (awaited t.heard.event) (after_turned telling.Ending s ENDER 0 t) closed in
    out_seated (all_but ENDER) asked ENDER (but_usual ENDER) telling.Ending (but_own ENDER) (after_waiting telling.Ending s ENDER 0 t) s' runs waited
end_seated asked false s f s' same all = let P : Stand → Type 0 = λ v. SeatedAt (all_but ENDER) asked v in subst P (sym same) all

ends_seated : (asked : List Asking) (s : Stand) (files : List ℕ) (s' : Stand) → EndsAll s files s' → SeatedAt (all_but ENDER) asked s → SeatedAt (all_but ENDER) asked s'
ends_seated asked s [] s' same all = let P : Stand → Type 0 = λ v. SeatedAt (all_but ENDER) asked v in subst P (sym same) all
ends_seated asked s (f ∷ files) s' links all = ends_seated asked links.mid files s' links.others (end_seated asked _ s f links.mid links.link all)

-- The whole.

replicate_none : {X : Type 0} (n c : ℕ) → slot_of (slice_get (replicate n (let x : Option X = None in x)) c) ≡ None
replicate_none zero c = refl
replicate_none (suc n) zero = refl
replicate_none (suc n) (suc c) = replicate_none n c

start_seated : SeatedAt all_told [] start_stand
unfolding start_stand start_site
start_seated legal = record { sits = λ c. Rests Nothing (replicate_none ACTOR_PLACES c); begun = refl; teardowns = refl }

ended_rests : (asked : List Asking) (ended : Stand) (c : ℕ) (v : Bool) → IsLegal ended.site.history → ((b : ℕ) → 1 ≤ b → b ≤ ENDER → is_busy ended.site b ≡ false) → (((a : ℕ) → Acts a → c ≢ a) → Outside c asked) → SeatOf (not v) asked ended c → SeatOf false asked ended c
ended_rests asked ended c true legal idle outside sits = sits
ended_rests asked ended zero false legal idle outside sits = outside_rests asked ended zero (outside (λ a acts same. omega (arith, acts.first, same))) sits
ended_rests asked ended (suc k) false legal idle outside sits =
    ⊎_elim
    (λ less. seat_rests asked ended (suc k) legal (idle (suc k) (omega arith) (omega (arith, less))) sits)
    (λ high. outside_rests asked ended (suc k) (outside (λ a acts same. omega (arith, acts.last, same, high))) sits)
    (cases_lt k DRIVER)

pub answers_all :
    (lines : List Line) (played finished ended : Stand) (asked : List Asking) → All IsInRange lines → IsLegal ended.site.history → ((b : ℕ) → 1 ≤ b → b ≤ ENDER → is_busy ended.site b ≡ false) → PlaysAll start_stand lines played asked
    → RunsOutAll telling.ToEnd played all_actors finished → EndsAll finished all_files ended → AnswersAll asked ended.replies ended.site.history
answers_all lines played finished ended asked ranges legal idle plays finishes ends c =
    let first : Told = record { stand = start_stand; asked = [] } in
    let last : Told = record { stand = played; asked = asked } in
    let outside : (b : ℕ) → ((a : ℕ) → Acts a → b ≢ a) → Outside b asked = λ b apart. outside_lines b apart first lines last ranges plays refl in
    let ender : (a : ℕ) → Acts a → ENDER ≢ a = λ a acts same. omega (arith, acts.last, same) in
    let all = finish_seated asked played all_actors finished finishes (lines_seated first lines last ranges plays start_seated) in
    let quiet = seated_quiet asked finished ENDER (λ l sits. outside_rests asked finished ENDER (outside ENDER ender) sits) all in
    let seated = ends_seated asked finished all_files ended ends quiet legal in
    ended_rests asked ended c (c == ENDER) legal idle (outside c) (seated.sits c)
