-- Why a call is refused: the first of four steps that applies. The first three are those of Linux's `uverbs_ioctl.c`
-- (ib_uverbs_cmd_verbs, uverbs_set_attr, ib_uverbs_run_method), but for the length of a handle, which is 0 there. The
-- fourth is this project's own, and so is that it comes before any object is looked at.
use Rattle.std.specs.Prelude.{ℕ, Bool, ◌==◌, ◌&&◌, nat_lt, if◌then◌else◌, List, [], ◌∷◌, Option, Some, None, is_none}
use Rattle.std.specs.List.{list_any}
use Rattle.std.specs.Option.{option_or}
use Rattle.uv_num.specs.declared.errno.Errno.{Errno}
use Rattle.uv_num.specs.declared.errno.Errno.TheVariants.{Inval, ProtoNoSupport}
use Rattle.uv_num.specs.declared.limits.TheConstants.{MOST_HANDLE}
use Rattle.uv_attr.specs.declared.call.Attr.{Attr}
use Rattle.uv_schema.specs.declared.ids.TheConstants.{VALUE_BYTES}
use Rattle.uv_schema.specs.declared.method.Method.{Method}
use Rattle.uv_schema.specs.declared.method.Wanted.{Wanted}
use Rattle.uv_schema.specs.Methods.{wanted_of, id_of, is_handle, is_required}
use Rattle.uv_num.specs.Ranges.{is_in_range}
use Rattle.uv_schema.specs.Values.{attr_in, value_in, request_in}

-- 1. the object and the method are no row of the table (`method_of` is None): EPROTONOSUPPORT

-- whether one of these attributes has the number
abbrev pub has_wanted : List Wanted → ℕ → Bool
has_wanted wanted id = list_any (λ w. id_of w == id) wanted

-- 2. attribute by attribute from the first: one that the method has and whose value hasn't 8 bytes is EINVAL; one that it
--    doesn't have is EPROTONOSUPPORT where it is mandatory, and is passed over where it isn't
abbrev pub attr_refusal : List Wanted → Attr → Option Errno
attr_refusal wanted a =
    if has_wanted wanted a.id
    then (if a.len == VALUE_BYTES then None else Some Inval)
    else (if a.mandatory then Some ProtoNoSupport else None)

abbrev pub attrs_refusal : List Wanted → List Attr → Option Errno
attrs_refusal wanted [] = None
attrs_refusal wanted (a ∷ attrs) = option_or (attr_refusal wanted a) (attrs_refusal wanted attrs)

-- 3. an attribute that has to be given is missing: EINVAL
abbrev pub is_missing : List Attr → Wanted → Bool
is_missing attrs w = is_required w && is_none (attr_in attrs (id_of w))

abbrev pub has_missing : Method → List Attr → Bool
has_missing method attrs = list_any (is_missing attrs) (wanted_of method)

-- 4. a value is out of its range: EINVAL. A handle has 32 bits; the other ranges are those of the request
abbrev pub is_wide : List Attr → Wanted → Bool
is_wide attrs w = is_handle w && nat_lt MOST_HANDLE (value_in attrs (id_of w))

abbrev pub has_wide : Method → List Attr → Bool
has_wide method attrs = list_any (is_wide attrs) (wanted_of method)

-- why a call of a method is refused, if it is
abbrev pub method_refusal : Method → List Attr → Option Errno
method_refusal method attrs =
    option_or (attrs_refusal (wanted_of method) attrs)
    (if has_missing method attrs then Some Inval
    else (if has_wide method attrs then Some Inval
    else (if is_in_range (request_in method attrs) then None
    else Some Inval)))
