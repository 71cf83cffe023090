-- The line of words that ask for nothing.
use Rattle.std.specs.Prelude.{ℕ, List, ◌++◌, codes}

-- the commands with their names and options
abbrev pub usage_line : List ℕ
usage_line =
    codes "usage: fixprove prove SCRIPT [--cert FILE] [--rounds N] [--depth N] [--boxes N] "
    ++ codes "[--workers N] | check SCRIPT CERT | gen N | upgrade CERT NEW | fix PROGRAM SCRIPT "
    ++ codes "| at SCRIPT POINT | trim SCRIPT CERT NEW "
    ++ codes "| batch LIST [--rounds N] [--depth N] [--boxes N] [--workers N]\n"
