-- Which words are a command. A new command is one more constructor, and one more arm of `command_of`.
use Rattle.std.specs.Prelude.{ℕ, ℤ, pos, negsuc, ◌==◌, ◌&&◌, ◌||◌, ◌≤◌, nat_le, not, Bool, true, false, List, [], ◌∷◌, Option, Some, None, bytes_eq, codes, length, map, take, drop, option_and_then, option_map, string_bytes, if◌then◌else◌}
use Rattle.lo_script.specs.Token.{int8_of, oid_of}
use Rattle.lo_tool.specs.declared.words.CleanUp.{CleanUp}
use Rattle.lo_tool.specs.declared.words.Command.{Command as Parsed}
use Rattle.lo_tool.specs.declared.words.Command.TheVariants.{Init as ParsedInit, RunScript as ParsedScript, RunScriptOn as ParsedScriptOn, Threads as ParsedThreads, CleanUp as ParsedCleanUp, List as ParsedList, Unlink as ParsedUnlink}

-- A command with its arguments. `init IMAGE [BLOCKS]` saves an empty database, `script - FILE` runs a script on one that is not
-- saved, and `script IMAGE FILE` runs it on an image's, and saves. `threads IMAGE FILE..` runs programs there, each in a thread,
-- and saves. `vacuumlo [-n] [-v] [-l N] IMAGE` removes the objects that no
-- column names. `list IMAGE` tells the objects, and `unlink IMAGE OID` removes one.
pub data Command : Type 0 where
  Init : (image : List ℕ) (blocks : ℕ) → Command
  RunScript : (file : List ℕ) → Command
  RunScriptOn : (image file : List ℕ) → Command
  RunThreads : (image : List ℕ) (names : List (List ℕ)) → Command
  RemoveOrphans : (image : List ℕ) (options : CleanUp) → Command
  ListObjects : (image : List ℕ) → Command
  UnlinkObject : (image : List ℕ) (oid : ℕ) → Command

-- a word that is not empty and begins with no `-`: words that do are options
abbrev pub is_file_name : List ℕ → Bool
is_file_name [] = false
is_file_name (b ∷ bs) = not (b == 45)

-- the blocks of a pool whose number is not given, and the most that it has
abbrev pub usual_blocks : ℕ
usual_blocks = 65536

abbrev pub most_blocks : ℕ
most_blocks = 262144

abbrev pub pool_size : ℤ → Option ℕ
pool_size (pos n) = if nat_le 1 n && nat_le n most_blocks then Some n else None
pool_size (negsuc n) = None

-- a number of blocks: a decimal without a sign or a leading zero, from 1 to the most
abbrev pub blocks_of : List ℕ → Option ℕ
blocks_of word = option_and_then pool_size (int8_of word)

-- what the words after `init` ask for
abbrev pub init_command : List (List ℕ) → Option Command
init_command (image ∷ []) = if is_file_name image then Some (Init image usual_blocks) else None
init_command (image ∷ blocks ∷ []) =
    if is_file_name image then option_map (Init image) (blocks_of blocks) else None
init_command _ = None

-- what the words after `script` ask for
abbrev pub script_command : List (List ℕ) → Option Command
script_command (image ∷ file ∷ []) =
    if not (is_file_name file) then None
    else if bytes_eq image (codes "-") then Some (RunScript file)
    else if is_file_name image then Some (RunScriptOn image file)
    else None
script_command _ = None

-- the most programs that threads run: one for each session
abbrev pub most_programs : ℕ
most_programs = 16

abbrev pub are_file_names : List (List ℕ) → Bool
are_file_names [] = true
are_file_names (word ∷ words) = is_file_name word && are_file_names words

-- what the words after `threads` ask for: an image, and at least one program
abbrev pub threads_command : List (List ℕ) → Option Command
threads_command [] = None
threads_command (image ∷ names) =
    if is_file_name image && are_file_names names && nat_le 1 (length names) && nat_le (length names) most_programs
    then Some (RunThreads image names) else None

-- the most objects that a clean-up removes in one transaction, where no number is given, and the greatest such number
abbrev pub usual_limit : ℕ
usual_limit = 1000

abbrev pub most_limit : ℕ
most_limit = 2147483647

abbrev pub limit_size : ℤ → Option ℕ
limit_size (pos n) = if nat_le n most_limit then Some n else None
limit_size (negsuc n) = None

-- a limit: a decimal without a sign or a leading zero. 0 is no limit
abbrev pub limit_of : List ℕ → Option ℕ
limit_of word = option_and_then limit_size (int8_of word)

-- a clean-up for which no option is given, and one of which one thing is asked more
abbrev pub plain_clean_up : CleanUp
plain_clean_up = record { dry = false; verbose = false; limit = usual_limit }

abbrev pub made_dry : CleanUp → CleanUp
made_dry options = record { dry = true; verbose = options.verbose; limit = options.limit }

abbrev pub made_verbose : CleanUp → CleanUp
made_verbose options = record { dry = options.dry; verbose = true; limit = options.limit }

abbrev pub limited : CleanUp → (limit : ℕ) → CleanUp
limited options limit = record { dry = options.dry; verbose = options.verbose; limit = limit }

-- a limit in one word with its option
abbrev pub limit_prefix : List ℕ
limit_prefix = codes "--limit="

abbrev pub prefixed_limit : List ℕ → Option ℕ
prefixed_limit word =
    if bytes_eq (take (length limit_prefix) word) limit_prefix then limit_of (drop (length limit_prefix) word) else None

-- the option whose limit is the next word
abbrev pub takes_next : List ℕ → Bool
takes_next word = bytes_eq word (codes "-l")

-- what an option makes of those before it, where it is one
abbrev pub with_option : CleanUp → (word next : List ℕ) → Option CleanUp
with_option options word next =
    if bytes_eq word (codes "-n") || bytes_eq word (codes "--dry-run") then Some (made_dry options)
    else if bytes_eq word (codes "-v") || bytes_eq word (codes "--verbose") then Some (made_verbose options)
    else option_map (limited options) (if takes_next word then limit_of next else prefixed_limit word)

-- what the words after `vacuumlo` ask for, after some options: options, and at last the image
abbrev pub clean_up_command : Option CleanUp → List (List ℕ) → Option Command
clean_up_command None words = None
clean_up_command (Some options) [] = None
clean_up_command (Some options) (image ∷ []) =
    if is_file_name image then Some (RemoveOrphans image options) else None
clean_up_command (Some options) (word ∷ next ∷ words) =
    if takes_next word then clean_up_command (with_option options word next) words
    else clean_up_command (with_option options word next) (next ∷ words)

-- what the words after `list` ask for
abbrev pub list_command : List (List ℕ) → Option Command
list_command (image ∷ []) = if is_file_name image then Some (ListObjects image) else None
list_command _ = None

-- what the words after `unlink` ask for: a number is a decimal without a sign or a leading zero, of 32 bits
abbrev pub unlink_command : List (List ℕ) → Option Command
unlink_command (image ∷ oid ∷ []) =
    if is_file_name image then option_map (UnlinkObject image) (oid_of oid) else None
unlink_command _ = None

-- the command that the words are, if they are one
abbrev pub command_of : List (List ℕ) → Option Command
command_of [] = None
command_of (name ∷ arguments) =
    if bytes_eq name (codes "init") then init_command arguments
    else if bytes_eq name (codes "script") then script_command arguments
    else if bytes_eq name (codes "threads") then threads_command arguments
    else if bytes_eq name (codes "vacuumlo") then clean_up_command (Some plain_clean_up) arguments
    else if bytes_eq name (codes "list") then list_command arguments
    else if bytes_eq name (codes "unlink") then unlink_command arguments
    else None

-- the numbers of a command are in the ranges that the definitions above have: the size of a pool, how many programs there are,
-- and the limit of a clean-up
abbrev pub IsInRange : Parsed → Type 0
IsInRange (ParsedInit image blocks) = (1 ≤ blocks) × (blocks ≤ most_blocks)
IsInRange (ParsedThreads image names) = length names.now ≤ most_programs
IsInRange (ParsedCleanUp image options) = options.limit ≤ most_limit
IsInRange _ = Unit {0}

-- the command that the parsed one stands for
abbrev pub command_meant : Parsed → Command
command_meant (ParsedInit image blocks) = Init image.now blocks
command_meant (ParsedScript file) = RunScript file.now
command_meant (ParsedScriptOn image file) = RunScriptOn image.now file.now
command_meant (ParsedThreads image names) = RunThreads image.now (map string_bytes names.now)
command_meant (ParsedCleanUp image options) = RemoveOrphans image.now options
command_meant (ParsedList image) = ListObjects image.now
command_meant (ParsedUnlink image oid) = UnlinkObject image.now oid
