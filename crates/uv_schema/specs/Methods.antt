-- The method table: a row for each method, with the object's number, the method's number and the attributes that the
-- method has. Numbers of objects are those of `enum uverbs_default_objects` of Linux (`rdma/ib_user_ioctl_cmds.h`);
-- numbers of methods and of attributes are this project's own.
use Rattle.std.specs.Prelude.{ℕ, Bool, true, false, ◌==◌, ◌&&◌, List, [], ◌∷◌, Option, find}
use Rattle.uv_schema.specs.declared.ids.TheConstants.{AH_DEVICE, BIND_ACCESS, BIND_LENGTH, BIND_MR, BIND_OFFSET, CQ_CHANNEL, CQ_DEPTH, DOMAIN, MODIFY_ACCESS, MODIFY_DEV, MODIFY_DQPN, MODIFY_MDRA, MODIFY_MRA, MODIFY_MTU, MODIFY_PKEY, MODIFY_PORT, MODIFY_QKEY, MODIFY_RETRY, MODIFY_RNR, MODIFY_RNRTIMER, MODIFY_RQPSN, MODIFY_SQPSN, MODIFY_TIMEOUT, MODIFY_TO, MR_ACCESS, MR_LENGTH, QP_RECV_CQ, QP_RECV_DEPTH, QP_SEND_CQ, QP_SEND_DEPTH, QP_SERVICE, QP_SRQ, SRQ_DEPTH, TARGET}
use Rattle.uv_schema.specs.declared.method.Method.{Method}
use Rattle.uv_schema.specs.declared.method.Method.TheVariants.{AllocPd, DeallocPd, CreateChannel, DestroyChannel, CreateCq, DestroyCq, CreateQp, DestroyQp, ModifyQp, QueryQp, CreateSrq, DestroySrq, CreateAh, DestroyAh, RegMr, DeregMr, AllocMw, DeallocMw, BindMw, GetAsync}
use Rattle.uv_schema.specs.declared.method.Wanted.{Wanted}
use Rattle.uv_schema.specs.declared.method.Wanted.TheVariants.{Handle, MayHandle, Number, MayNumber}

pub record Row : Type 0 where
  pub object : ℕ
  pub number : ℕ
  pub wanted : List Wanted

abbrev pub row : ℕ → ℕ → List Wanted → Row
row object number wanted = record { object = object; number = number; wanted = wanted }

-- the table: object, method, attributes
abbrev pub row_of : Method → Row
row_of AllocPd = row 1 1 []
row_of DeallocPd = row 1 2 (Handle TARGET ∷ [])
row_of CreateChannel = row 2 1 []
row_of DestroyChannel = row 2 2 (Handle TARGET ∷ [])
row_of CreateCq = row 3 1 (Number CQ_DEPTH ∷ MayHandle CQ_CHANNEL ∷ [])
row_of DestroyCq = row 3 2 (Handle TARGET ∷ [])
row_of CreateQp = row 4 1 (Handle DOMAIN ∷ Handle QP_SEND_CQ ∷ Handle QP_RECV_CQ ∷ MayHandle QP_SRQ ∷ Number QP_SERVICE ∷ Number QP_SEND_DEPTH ∷ Number QP_RECV_DEPTH ∷ [])
row_of DestroyQp = row 4 2 (Handle TARGET ∷ [])
row_of ModifyQp =
    row 4 3 (Handle TARGET ∷ Number MODIFY_TO ∷ MayNumber MODIFY_ACCESS ∷ MayNumber MODIFY_PKEY ∷ MayNumber MODIFY_PORT ∷ MayNumber MODIFY_QKEY ∷ MayNumber MODIFY_DEV ∷ MayNumber MODIFY_MTU ∷ MayNumber MODIFY_TIMEOUT
    ∷ MayNumber MODIFY_RETRY ∷ MayNumber MODIFY_RNR ∷ MayNumber MODIFY_RQPSN ∷ MayNumber MODIFY_MRA ∷ MayNumber MODIFY_RNRTIMER ∷ MayNumber MODIFY_SQPSN ∷ MayNumber MODIFY_MDRA ∷ MayNumber MODIFY_DQPN ∷ [])
row_of QueryQp = row 4 4 (Handle TARGET ∷ [])
row_of CreateSrq = row 5 1 (Handle DOMAIN ∷ Number SRQ_DEPTH ∷ [])
row_of DestroySrq = row 5 2 (Handle TARGET ∷ [])
row_of CreateAh = row 6 1 (Handle DOMAIN ∷ Number AH_DEVICE ∷ [])
row_of DestroyAh = row 6 2 (Handle TARGET ∷ [])
row_of RegMr = row 7 1 (Handle DOMAIN ∷ Number MR_LENGTH ∷ Number MR_ACCESS ∷ [])
row_of DeregMr = row 7 2 (Handle TARGET ∷ [])
row_of AllocMw = row 8 1 (Handle DOMAIN ∷ [])
row_of DeallocMw = row 8 2 (Handle TARGET ∷ [])
row_of BindMw = row 8 3 (Handle TARGET ∷ MayHandle BIND_MR ∷ Number BIND_OFFSET ∷ Number BIND_LENGTH ∷ Number BIND_ACCESS ∷ [])
row_of GetAsync = row 16 1 []

-- the rows, in the order of the table
abbrev pub methods : List Method
methods =
    AllocPd ∷ DeallocPd ∷ CreateChannel ∷ DestroyChannel ∷ CreateCq ∷ DestroyCq ∷ CreateQp ∷ DestroyQp ∷ ModifyQp ∷ QueryQp
    ∷ CreateSrq ∷ DestroySrq ∷ CreateAh ∷ DestroyAh ∷ RegMr ∷ DeregMr ∷ AllocMw ∷ DeallocMw ∷ BindMw ∷ GetAsync ∷ []

abbrev pub has_numbers : ℕ → ℕ → Method → Bool
has_numbers object number method = ((row_of method).object == object) && ((row_of method).number == number)

-- the method of an object's number and a method's number, if there is such a row
abbrev pub method_of : ℕ → ℕ → Option Method
method_of object number = find (has_numbers object number) methods

-- the attributes that a method has
abbrev pub wanted_of : Method → List Wanted
wanted_of method = (row_of method).wanted

-- the number of an attribute
abbrev pub id_of : Wanted → ℕ
id_of (Handle id) = id
id_of (MayHandle id) = id
id_of (Number id) = id
id_of (MayNumber id) = id

-- whether an attribute has to be given
abbrev pub is_required : Wanted → Bool
is_required (Handle id) = true
is_required (MayHandle id) = false
is_required (Number id) = true
is_required (MayNumber id) = false

-- whether the value of an attribute is a handle
abbrev pub is_handle : Wanted → Bool
is_handle (Handle id) = true
is_handle (MayHandle id) = true
is_handle (Number id) = false
is_handle (MayNumber id) = false
