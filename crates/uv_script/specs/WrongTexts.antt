-- Why a line is outside the language, in plain words. They are this project's own.
use Rattle.std.specs.Prelude.{ℕ, List, codes}
use Rattle.uv_num.specs.declared.kind.Kind.{Kind}
use Rattle.uv_num.specs.declared.kind.Kind.TheVariants.{Pd, Channel, Cq, Qp, Srq, Ah, Mr, Mw}
use Rattle.uv_script.specs.declared.wrong.Operand.{Operand}
use Rattle.uv_script.specs.declared.wrong.Operand.TheVariants.{File, Device, Handle, MayHandle, Number, Service, Bytes, Object, Count, Solicited}
use Rattle.uv_script.specs.declared.wrong.Wrong.{Wrong}
use Rattle.uv_script.specs.declared.wrong.Wrong.TheVariants.{Lines, Byte, Head, Dead, Client, Unplug, NoVerb, Verb, NotBuilt, Missing, NotA, LeadingZero, TooGreat, HandleTooGreat, Undeclared, More, NoName, BadName, Twice}

abbrev pub missing_object : Kind → List ℕ
missing_object Pd = codes "a domain's name is missing"
missing_object Channel = codes "a channel's name is missing"
missing_object Cq = codes "a completion queue's name is missing"
missing_object Qp = codes "a queue pair's name is missing"
missing_object Srq = codes "a shared receive queue's name is missing"
missing_object Ah = codes "an address handle's name is missing"
missing_object Mr = codes "a region's name is missing"
missing_object Mw = codes "a window's name is missing"

abbrev pub unread_object : Kind → List ℕ
unread_object Pd = codes "isn't a domain's name"
unread_object Channel = codes "isn't a channel's name"
unread_object Cq = codes "isn't a completion queue's name"
unread_object Qp = codes "isn't a queue pair's name"
unread_object Srq = codes "isn't a shared receive queue's name"
unread_object Ah = codes "isn't an address handle's name"
unread_object Mr = codes "isn't a region's name"
unread_object Mw = codes "isn't a window's name"

abbrev pub missing_text : Operand → List ℕ
missing_text File = codes "a file is missing"
missing_text Device = codes "a device is missing"
missing_text Handle = codes "a handle is missing"
missing_text MayHandle = codes "a handle or - is missing"
missing_text Number = codes "a number is missing"
missing_text Service = codes "a service is missing"
missing_text Bytes = codes "bytes are missing"
missing_text (Object kind) = missing_object kind
missing_text Count = codes "a count is missing"
missing_text Solicited = codes "all or sol is missing"

abbrev pub unread_text : Operand → List ℕ
unread_text File = codes "isn't a file"
unread_text Device = codes "isn't a device"
unread_text Handle = codes "isn't a handle"
unread_text MayHandle = codes "isn't a handle"
unread_text Number = codes "isn't a number"
unread_text Service = codes "isn't a service"
unread_text Bytes = codes "isn't bytes"
unread_text (Object kind) = unread_object kind
unread_text Count = codes "isn't a count of 1 to 64"
unread_text Solicited = codes "isn't all or sol"

abbrev pub wrong_text : Wrong → List ℕ
wrong_text Lines = codes "a line too many"
wrong_text Byte = codes "a byte that no line has"
wrong_text Head = codes "isn't a client, drv or die"
wrong_text Dead = codes "the client died"
wrong_text Client = codes "one client is wanted"
wrong_text Unplug = codes "unplug is wanted"
wrong_text NoVerb = codes "a verb is missing"
wrong_text Verb = codes "isn't a verb"
wrong_text NotBuilt = codes "not built yet"
wrong_text (Missing operand) = missing_text operand
wrong_text (NotA operand) = unread_text operand
wrong_text LeadingZero = codes "a leading zero"
wrong_text TooGreat = codes "a number of 2^64 or more"
wrong_text HandleTooGreat = codes "a handle of 2^32 or more"
wrong_text Undeclared = codes "isn't declared"
wrong_text More = codes "nothing may stand here"
wrong_text NoName = codes "a name is missing"
wrong_text BadName = codes "isn't a name"
wrong_text Twice = codes "is declared already"
