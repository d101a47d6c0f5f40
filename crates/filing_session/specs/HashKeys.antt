-- Keys, and the hashers that they make.
use Rattle.std.specs.Prelude.{Bool, true, false}
use Rattle.std.specs.declared.hash.DefaultHasher.{DefaultHasher}
use Rattle.std.specs.Hash.DefaultHasher.{initial}
use Rattle.std.specs.RandomState.{initial_hasher}
use Rattle.filing_session.specs.declared.hash_keys.HashKeys.{HashKeys}
use Rattle.filing_session.specs.declared.hash_keys.HashKeys.TheVariants.{Fixed, Drawn}

-- a hasher to which nothing was written
unfoldable pub begun : HashKeys → DefaultHasher
begun Fixed = initial
begun (Drawn keys) = initial_hasher keys

-- they are not the fixed ones
unfoldable pub is_drawn : HashKeys → Bool
is_drawn Fixed = false
is_drawn (Drawn keys) = true
