mod Hands
