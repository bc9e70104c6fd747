-- No text of a report holds a line feed but at its end, so that a report is its lines.
use Rattle.std.specs.Prelude.{◌≡◌, ℕ, zero, suc, ◌+◌, ◌/◌, ◌%◌, Bool, true, false, not, ◌==◌, ◌&&◌, ◌<◌, nat_lt, List, [], ◌∷◌, ◌++◌, Option, None, Some, codes, length, map, flat_map, replicate, if◌then◌else◌, refl}
use Rattle.std.specs.List.{list_all}
use Rattle.std.specs.Fmt.{digit_glyph, digits_onto, digits, decimal}
use Rattle.std.proofs.Common.{ap, sym, ◌∙◌, arith, append_assoc, append-nil}
use Rattle.std.proofs.lemmas.Bool.{ne_eqb}
use Rattle.std.proofs.lemmas.List.Folds.{list_all-append}
use Rattle.uv_num.specs.declared.errno.Errno.{Errno}
use Rattle.uv_num.specs.declared.errno.Errno.TheVariants as errno
use Rattle.uv_num.specs.Errno.{errno_name}
use Rattle.uv_num.specs.declared.kind.Kind.{Kind}
use Rattle.uv_num.specs.declared.kind.Kind.TheVariants as kind
use Rattle.uv_num.specs.Kind.{kind_name}
use Rattle.uv_num.specs.declared.qp.QpState.{QpState}
use Rattle.uv_num.specs.declared.qp.QpState.TheVariants as qp
use Rattle.uv_script.specs.Lines.{lines_of}
use Rattle.uv_model.specs.declared.left.Left.{Left}
use Rattle.uv_model.specs.Gone.{gone_of}
use Rattle.uv_report.specs.declared.record.Said.{Said}
use Rattle.uv_machine.specs.declared.entry.Word.{Word}
use Rattle.uv_machine.specs.declared.entry.Word.TheVariants as step
use Rattle.uv_wr.specs.declared.completion.Completion.{Completion}
use Rattle.uv_wr.specs.declared.completion.Status.{Status}
use Rattle.uv_wr.specs.declared.completion.Status.TheVariants as status
use Rattle.uv_wr.specs.declared.completion.What.{What}
use Rattle.uv_wr.specs.declared.completion.What.TheVariants as what
use Rattle.uv_wr.specs.Statuses.{status_name, what_name}
use Rattle.uv_report.specs.declared.saying.Tearer.{Tearer}
use Rattle.uv_report.specs.declared.saying.Tearer.TheVariants.{Client, Driver}
use Rattle.uv_report.specs.declared.saying.Saying.{Saying}
use Rattle.uv_report.specs.declared.saying.Saying.TheVariants as saying
use Rattle.uv_report.specs.Report.{completion_text, immediate_text, key_text, overrun_text, state_name, step_name, refusal_text, tearer_text, file_text, object_text, work_text, saying_text, said_line, left_line, gone_line}
use Rattle.uv_report.specs.Laws.{ReportIsItsLines}

-- A text without a line feed.

abbrev pub is_inside : ℕ → Bool
is_inside b = not (b == 10)

pub record IsInside (text : List ℕ) : Type 0 where
  pub all : list_all is_inside text ≡ true

-- a text that is spelled out
said : (text : List ℕ) → list_all is_inside text ≡ true → IsInside text
said text h = record { all = h }

-- one text behind another
join : (a b : List ℕ) → IsInside a → IsInside b → IsInside (a ++ b)
join a b one other = record { all = rw (list_all-append is_inside a b, one.all) other.all }

inside_number : (n : ℕ) → 10 < n → is_inside n ≡ true
inside_number n large = rw (ne_eqb n 10 (λ e. omega arith)) refl

inside_glyph : (d : ℕ) (c : Bool) → is_inside (if c then 48 + d else 87 + d) ≡ true
inside_glyph d true = inside_number (48 + d) (omega arith)
inside_glyph d false = inside_number (87 + d) (omega arith)

both : (b c : Bool) → b ≡ true → c ≡ true → (b && c) ≡ true
both b c one other = rw (one, other) refl

either : (c : Bool) (a b : List ℕ) → list_all is_inside a ≡ true → list_all is_inside b ≡ true → list_all is_inside (if c then a else b) ≡ true
either true a b one other = one
either false a b one other = other

inside_digits : (k base n : ℕ) (acc : List ℕ) → list_all is_inside acc ≡ true → list_all is_inside (digits_onto k base false n acc) ≡ true
inside_digits zero base n acc h = h
inside_digits (suc k) base n acc h =
    let more : list_all is_inside (digit_glyph false (n % base) ∷ acc) ≡ true = both _ _ (inside_glyph (n % base) (nat_lt (n % base) 10)) h in
    either (n / base == 0) _ _ more (inside_digits k base (n / base) (digit_glyph false (n % base) ∷ acc) more)

number : (base n : ℕ) → IsInside (digits base false n)
unfolding digits
number base n = record { all = inside_digits 64 base n [] refl }

zeros : (n : ℕ) → IsInside (replicate n 48)
zeros zero = record { all = refl }
zeros (suc n) = record { all = (zeros n).all }

-- The parts of a text.

inside_errno : (e : Errno) → IsInside (errno_name e)
inside_errno errno.NoEnt = said _ refl
inside_errno errno.Io = said _ refl
inside_errno errno.BadF = said _ refl
inside_errno errno.Again = said _ refl
inside_errno errno.NoMem = said _ refl
inside_errno errno.Busy = said _ refl
inside_errno errno.Inval = said _ refl
inside_errno errno.NoSpc = said _ refl
inside_errno errno.ProtoNoSupport = said _ refl
inside_errno errno.OpNotSupp = said _ refl

inside_kind : (k : Kind) → IsInside (kind_name k)
inside_kind kind.Pd = said _ refl
inside_kind kind.Channel = said _ refl
inside_kind kind.Cq = said _ refl
inside_kind kind.Qp = said _ refl
inside_kind kind.Srq = said _ refl
inside_kind kind.Ah = said _ refl
inside_kind kind.Mr = said _ refl
inside_kind kind.Mw = said _ refl

inside_state : (s : QpState) → IsInside (state_name s)
inside_state qp.Reset = said _ refl
inside_state qp.Init = said _ refl
inside_state qp.Rtr = said _ refl
inside_state qp.Rts = said _ refl
inside_state qp.Err = said _ refl

inside_step : (w : Word) → IsInside (step_name w)
inside_step step.Reserve = said _ refl
inside_step step.Look = said _ refl
inside_step step.Make = said _ refl
inside_step step.Commit = said _ refl
inside_step step.Act = said _ refl
inside_step step.Lock = said _ refl
inside_step step.Check = said _ refl
inside_step step.Finish = said _ refl
inside_step step.Abort = said _ refl
inside_step step.Free = said _ refl
inside_step step.Exit = said _ refl

inside_refusal : (r : Option Errno) → IsInside (refusal_text r)
inside_refusal None = said _ refl
inside_refusal (Some e) = join _ _ (said (codes " ") refl) (inside_errno e)

inside_tearer : (t : Tearer) → IsInside (tearer_text t)
inside_tearer (Client client) = join _ _ (said (codes "c") refl) (number 10 client)
inside_tearer Driver = said _ refl

inside_file : (file : ℕ) → IsInside (file_text file)
inside_file file = join _ _ (said (codes "f") refl) (number 10 file)

inside_key : (key : ℕ) → IsInside (key_text key)
inside_key key = join _ _ (said (codes "0x") refl) (join _ _ (zeros _) (number 16 key))

inside_object : (x : Left) → IsInside (object_text x)
inside_object x =
    join _ _ (join _ _ (join _ _ (join _ _ (inside_file x.file) (said (codes " ") refl)) (inside_kind x.kind)) (said (codes " ") refl)) (number 10 x.handle)

inside_status : (s : Status) → IsInside (status_name s)
inside_status status.Success = said _ refl
inside_status status.LocLenErr = said _ refl
inside_status status.LocProtErr = said _ refl
inside_status status.WrFlushErr = said _ refl
inside_status status.RemInvReqErr = said _ refl
inside_status status.RemAccessErr = said _ refl
inside_status status.RemOpErr = said _ refl
inside_status status.RetryExcErr = said _ refl
inside_status status.RnrRetryExcErr = said _ refl

inside_what : (w : What) → IsInside (what_name w)
inside_what what.Send = said _ refl
inside_what what.Write = said _ refl
inside_what what.Read = said _ refl
inside_what what.Ud = said _ refl
inside_what what.Recv = said _ refl

inside_overrun : (overrun : Bool) → IsInside (overrun_text overrun)
inside_overrun true = said _ refl
inside_overrun false = said _ refl

inside_immediate : (imm : Option ℕ) → IsInside (immediate_text imm)
inside_immediate None = said _ refl
inside_immediate (Some imm) = join _ _ (said (codes " imm ") refl) (inside_key imm)

-- one text after another, with a text between them
between : (a b c : List ℕ) → IsInside a → list_all is_inside b ≡ true → IsInside c → IsInside (a ++ b ++ c)
between a b c front mid last = join _ _ (join _ _ front (said b mid)) last

inside_work : (c : Completion) → IsInside (work_text c)
inside_work c = between _ (codes " ") _ (between _ (codes " ") _ (number 10 c.id) refl (inside_status c.status)) refl (inside_what c.what)

inside_completion : (c : Completion) → IsInside (completion_text c)
inside_completion c =
    join _ _
    (between _ (codes " qpn ") _
    (between _ (codes " ") _ (join _ _ (said (codes "wc ") refl) (inside_work c)) refl
    (number 10 c.length)) refl
    (number 10 c.qpn)) (inside_immediate c.imm)

inside_saying : (s : Saying) → IsInside (saying_text s)
inside_saying saying.Ok = said _ refl
inside_saying (saying.Handle handle) = join _ _ (said (codes "ok ") refl) (number 10 handle)
inside_saying (saying.Pair handle n) = join _ _ (join _ _ (join _ _ (said (codes "ok ") refl) (number 10 handle)) (said (codes " qpn ") refl)) (number 10 n)
inside_saying (saying.Key handle key) = join _ _ (join _ _ (join _ _ (said (codes "ok ") refl) (number 10 handle)) (said (codes " key ") refl)) (inside_key key)
inside_saying (saying.State state n) = join _ _ (join _ _ (join _ _ (said (codes "ok ") refl) (inside_state state)) (said (codes " qpn ") refl)) (number 10 n)
inside_saying saying.DeviceFatal = said _ refl
inside_saying (saying.Refused e) = inside_errno e
inside_saying saying.Began = said _ refl
inside_saying (saying.Step word refusal) = join _ _ (inside_step word) (inside_refusal refusal)
inside_saying (saying.Tear file) = join _ _ (said (codes "tear ") refl) (inside_file file)
inside_saying (saying.Kill x) = join _ _ (said (codes "kill ") refl) (inside_object x)
inside_saying (saying.Gone x) = join _ _ (said (codes "gone ") refl) (inside_object x)
inside_saying (saying.Dissociated file) = join _ _ (said (codes "dissociated ") refl) (inside_file file)
inside_saying (saying.Closed file) = join _ _ (said (codes "closed ") refl) (inside_file file)
inside_saying (saying.NotYet calls) = join _ _ (said (codes "notyet ") refl) (number 10 calls)
inside_saying (saying.TornBy tearer) = join _ _ (said (codes "notyet ") refl) (inside_tearer tearer)
inside_saying saying.Idle = said _ refl
inside_saying (saying.Polled taken overrun) = join _ _ (join _ _ (said (codes "ok ") refl) (number 10 taken)) (inside_overrun overrun)
inside_saying (saying.Empty overrun) = join _ _ (said (codes "empty") refl) (inside_overrun overrun)
inside_saying (saying.Completed completion) = inside_completion completion
inside_saying (saying.EventOf cq) = join _ _ (said (codes "ok cq ") refl) (number 10 cq)
inside_saying saying.Dead = said _ refl

-- Lines.

-- a text without a line feed, and a line feed
pub record IsLine (line : List ℕ) : Type 0 where
  pub text : List ℕ
  pub inside : IsInside text
  pub ends : line ≡ text ++ 10 ∷ []

off : (c d : Bool) → (not c && d) ≡ true → c ≡ false
off true d h = cc
off false d h = refl

later : (c d : Bool) → (c && d) ≡ true → d ≡ true
later true d h = h
later false d h = cc

first_line : (text rest : List ℕ) → list_all is_inside text ≡ true → lines_of (text ++ 10 ∷ rest) ≡ (text ++ 10 ∷ []) ∷ lines_of rest
first_line [] rest h = refl
first_line (b ∷ text) rest h =
    let inner : (b == 10) ≡ false = off (b == 10) (list_all is_inside text) h in
    let behind : lines_of (text ++ 10 ∷ rest) ≡ (text ++ 10 ∷ []) ∷ lines_of rest = first_line text rest (later (is_inside b) (list_all is_inside text) h) in
    rw (inner, behind) refl

-- a line in front of more bytes is the first of their lines
lines_of-line : (line rest : List ℕ) → IsLine line → lines_of (line ++ rest) ≡ line ∷ lines_of rest
lines_of-line line rest is =
    rw is.ends (ap lines_of (append_assoc is.text (10 ∷ []) rest) ∙ first_line is.text rest is.inside.all)

-- lines in front of more bytes
lines_of-lines : {X : Type 0} (f : X → List ℕ) (each : (x : X) → IsLine (f x)) (xs : List X) (rest : List ℕ) → lines_of (flat_map f xs ++ rest) ≡ map f xs ++ lines_of rest
lines_of-lines f each [] rest = refl
lines_of-lines f each (x ∷ xs) rest =
    ap lines_of (append_assoc (f x) (flat_map f xs) rest) ∙ lines_of-line (f x) (flat_map f xs ++ rest) (each x) ∙ ap (λ v. f x ∷ v) (lines_of-lines f each xs rest)

is_said : (s : Said) → IsLine (said_line s)
is_said s = record {
  text = decimal s.line ++ codes " " ++ saying_text s.text;
  inside = join _ _ (join _ _ (number 10 s.line) (said (codes " ") refl)) (inside_saying s.text);
  ends = refl;
}

is_left : (left : ℕ) → IsLine (left_line left)
is_left left = record { text = codes "left " ++ decimal left; inside = join _ _ (said (codes "left ") refl) (number 10 left); ends = refl }

is_gone : (x : Left) → IsLine (gone_line x)
is_gone x = record { text = codes "end gone " ++ object_text x; inside = join _ _ (said (codes "end gone ") refl) (inside_object x); ends = refl }

pub lines_of-report : ReportIsItsLines
lines_of-report told =
    let replies : List ℕ = flat_map said_line told.replies in
    let left : List ℕ = left_line (length told.left) in
    let gone : List ℕ = flat_map gone_line (gone_of told.history) in
    let ends : lines_of gone ≡ map gone_line (gone_of told.history) = ap lines_of (sym (append-nil gone)) ∙ lines_of-lines gone_line is_gone (gone_of told.history) [] ∙ append-nil _ in
    let behind : lines_of (left ++ gone) ≡ left ∷ map gone_line (gone_of told.history) = lines_of-line left gone (is_left (length told.left)) ∙ ap (λ v. left ∷ v) ends in
    ap lines_of (append_assoc replies left gone) ∙ lines_of-lines said_line is_said told.replies (left ++ gone) ∙ ap (λ v. map said_line told.replies ++ v) behind
