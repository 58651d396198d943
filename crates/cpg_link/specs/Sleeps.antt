-- which news end which sleep
use Rattle.std.specs.Prelude.{Bool, true, false}
use Rattle.cpg_link.specs.declared.bells.Depth.{Depth}
use Rattle.cpg_link.specs.declared.bells.Depth.TheVariants.{Awake, Light, Deep}
use Rattle.cpg_link.specs.declared.bells.News.{News}
use Rattle.cpg_link.specs.declared.bells.News.TheVariants.{Token, Data, Call, Halt}

-- a light sleep is ended by frames and by the halt, a deep one by data, calls and the halt
abbrev pub ends_by : Depth → News → Bool
ends_by Awake news = false
ends_by Light Token = true
ends_by Light Data = true
ends_by Light Call = false
ends_by Light Halt = true
ends_by Deep Token = false
ends_by Deep Data = true
ends_by Deep Call = true
ends_by Deep Halt = true
