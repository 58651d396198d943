-- what is wanted of a word, as it is printed: the word's name in the grammar, and what it may be
use Rattle.std.specs.Prelude.{ℕ, List, ◌++◌, codes, decimal}
use Rattle.cpg_hint.specs.declared.patterns.Expected.{Expected}
use Rattle.cpg_hint.specs.declared.patterns.Expected.TheVariants as expected

-- the phrase of a pattern, where there are so many nodes
abbrev pub expected_text : ℕ → Expected → List ℕ
expected_text nodes expected.Op = codes "CALL: join GROUP, leave, send TEXT, insert GROUP POS EFFECT RIGHT WHO, remove GROUP ID, or gone"
expected_text nodes expected.Call = codes "CALL: join GROUP, leave, send TEXT, insert GROUP POS EFFECT RIGHT WHO, or remove GROUP ID"
expected_text nodes expected.StepCommand = codes "COMMAND: connect, call, disconnect, frame, timer, deliver, take, list, groups, show, audit, rules or safe"
expected_text nodes expected.RunCommand = codes "COMMAND: connect, call, wait, list, groups, audit, close or safe"
expected_text nodes expected.Caller = codes "NODE.CONN: a node from 1 to 8, a dot, and a connection from 1 to 65535"
expected_text nodes expected.Node = codes "NODE: a number from 1 to " ++ decimal nodes
expected_text nodes expected.Conn = codes "CONN: a number from 1 to 65535"
expected_text nodes expected.Pid = codes "PID: a number from 0 to 4294967295"
expected_text nodes expected.Uid = codes "UID: a number from 0 to 4294967295"
expected_text nodes expected.Gid = codes "GID: a number from 0 to 4294967295"
expected_text nodes expected.Id = codes "ID: a number from 0 to 4294967295"
expected_text nodes expected.Session = codes "S: a number from 0 to 4294967295"
expected_text nodes expected.Number = codes "N: a number from 0 to 4294967295"
expected_text nodes expected.Frame = codes "K: a number from 0 to 18446744073709551615"
expected_text nodes expected.Position = codes "POS: a number from 0 to 255"
expected_text nodes expected.Effect = codes "EFFECT: allow or deny"
expected_text nodes expected.Right = codes "RIGHT: join, send, list or edit"
expected_text nodes expected.Who = codes "WHO: any, or uid:N, gid:N, node:N, in this order, joined by +, each at most once, and node 1 to 8"
expected_text nodes expected.Name = codes "GROUP: a name of 1 to 128 printing ASCII characters"
expected_text nodes expected.Message = codes "TEXT: a message of at most 8192 bytes, % and two hexadecimal digits for any byte, - for the empty one"
expected_text nodes expected.Text = codes "TEXT: a message, % and two hexadecimal digits for any byte, - for the empty one"
expected_text nodes expected.Group = codes "GROUP: a name"
expected_text nodes expected.Named = codes "NAME: a name"
expected_text nodes expected.Table = codes "user NAME N, or group NAME N"
expected_text nodes expected.Room = codes "nothing: a script has at most 1048576 entries"
expected_text nodes expected.Head = codes "a line %names, %conf or %ask, which begins a part"
expected_text nodes expected.Nothing = codes "nothing: the line ends before this word"
