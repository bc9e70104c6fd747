-- The table of verbs: the word of each.
use Rattle.std.specs.Prelude.{ℕ, Bool, nat_eq, List, codes, Option, Some, None, find}
use Rattle.std.specs.Cmp.Lexicographic.{pointwise}
use Rattle.uv_num.specs.declared.kind.Kind.{Kind}
use Rattle.uv_num.specs.declared.kind.Kind.TheVariants.{Pd, Channel, Cq, Qp, Srq, Ah, Mr, Mw}
use Rattle.uv_script.specs.declared.verbs.VerbWord.{VerbWord}
use Rattle.uv_script.specs.declared.verbs.VerbWord.TheVariants.{Open, Close, Raw, Create, Destroy, BindMw, GetAsync}
use Rattle.uv_script.specs.declared.verbs.TheConstants.{VERBS}

-- the create of a kind
abbrev pub create_text : Kind → List ℕ
create_text Pd = codes "alloc_pd"
create_text Channel = codes "create_channel"
create_text Cq = codes "create_cq"
create_text Qp = codes "create_qp"
create_text Srq = codes "create_srq"
create_text Ah = codes "create_ah"
create_text Mr = codes "reg_mr"
create_text Mw = codes "alloc_mw"

-- the destroy of a kind
abbrev pub destroy_text : Kind → List ℕ
destroy_text Pd = codes "dealloc_pd"
destroy_text Channel = codes "destroy_channel"
destroy_text Cq = codes "destroy_cq"
destroy_text Qp = codes "destroy_qp"
destroy_text Srq = codes "destroy_srq"
destroy_text Ah = codes "destroy_ah"
destroy_text Mr = codes "dereg_mr"
destroy_text Mw = codes "dealloc_mw"

abbrev pub verb_text : VerbWord → List ℕ
verb_text Open = codes "open"
verb_text Close = codes "close"
verb_text Raw = codes "raw"
verb_text (Create kind) = create_text kind
verb_text (Destroy kind) = destroy_text kind
verb_text BindMw = codes "bind_mw"
verb_text GetAsync = codes "get_async"

abbrev pub is_spelled : List ℕ → VerbWord → Bool
is_spelled word verb = pointwise nat_eq (verb_text verb) word

-- the verb that a word is, if it is one of them
abbrev pub verb_word : List ℕ → Option VerbWord
verb_word word = find (is_spelled word) VERBS

-- the kind of what a verb makes, which may be given a name
abbrev pub kind_made : VerbWord → Option Kind
kind_made Open = None
kind_made Close = None
kind_made Raw = None
kind_made (Create kind) = Some kind
kind_made (Destroy kind) = None
kind_made BindMw = None
kind_made GetAsync = None
