-- The numbers and symbols of the errnos, as Linux has them.
use Rattle.std.specs.Prelude.{ℕ, List, codes}
use Rattle.uv_num.specs.declared.errno.Errno.{Errno}
use Rattle.uv_num.specs.declared.errno.Errno.TheVariants.{NoEnt, Io, BadF, Again, NoMem, Busy, Inval, NoSpc, ProtoNoSupport, OpNotSupp}

-- Linux's number for an errno
abbrev pub errno_number : Errno → ℕ
errno_number NoEnt = 2
errno_number Io = 5
errno_number BadF = 9
errno_number Again = 11
errno_number NoMem = 12
errno_number Busy = 16
errno_number Inval = 22
errno_number NoSpc = 28
errno_number ProtoNoSupport = 93
errno_number OpNotSupp = 95

-- the symbol of an errno
abbrev pub errno_name : Errno → List ℕ
errno_name NoEnt = codes "ENOENT"
errno_name Io = codes "EIO"
errno_name BadF = codes "EBADF"
errno_name Again = codes "EAGAIN"
errno_name NoMem = codes "ENOMEM"
errno_name Busy = codes "EBUSY"
errno_name Inval = codes "EINVAL"
errno_name NoSpc = codes "ENOSPC"
errno_name ProtoNoSupport = codes "EPROTONOSUPPORT"
errno_name OpNotSupp = codes "EOPNOTSUPP"
